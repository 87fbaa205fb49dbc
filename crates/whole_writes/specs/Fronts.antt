-- What went out of bytes that a writer was given.
use Rattle.std.specs.Prelude.{◌≡◌, ℕ, List, ◌++◌, Option}
use Rattle.std.specs.Io.KnownBytes.{Appends}

-- A beginning of these bytes was added to what a writer holds, where that is known, and nothing else.
pub record BeganWith (old new : Option (List ℕ)) (bytes : List ℕ) : Type 0 where
  pub front : List ℕ
  pub rest : List ℕ
  pub split : front ++ rest ≡ bytes
  pub wrote : Appends old new front

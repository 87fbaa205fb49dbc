-- What a program says on its stream of errors.
use Rattle.std.specs.Prelude.{◌≡◌, ℕ, Bool, true, List, Option, Some}
use Rattle.std.specs.Io.KnownBytes.{Appends}

-- A stream before a program said something on it and after that, how the bytes that it holds are seen, and how a message is tried on it.
pub record Saying (E : Type 0) : Type 1 where
  pub contents : E → Option (List ℕ)
  pub tried : E → Option (List ℕ) → Bool → E → Type 0
  pub old : E
  pub new : E

abbrev pub saying : {E : Type 0} → (E → Option (List ℕ)) → (E → Option (List ℕ) → Bool → E → Type 0) → E → E → Saying E
saying contents tried old new = record { contents = contents; tried = tried; old = old; new = new }

-- This text, and nothing else, was tried there; that it went out is reported only where it did.
abbrev pub IsSaid : {E : Type 0} → Saying E → List ℕ → Bool → Type 0
IsSaid errors text reported = (went : Bool) × errors.tried errors.old (Some text) went errors.new
    × (reported ≡ true → (went ≡ true) × Appends (errors.contents errors.old) (errors.contents errors.new) text)

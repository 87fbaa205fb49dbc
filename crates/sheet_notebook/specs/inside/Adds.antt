-- What private functions add to a text.
use Rattle.std.specs.Prelude.{◌≡◌, ◌++◌, ℕ, List}

-- these bytes were added at the end
abbrev pub Adds : List ℕ → List ℕ → List ℕ → Type 0
Adds old new more = new ≡ old ++ more

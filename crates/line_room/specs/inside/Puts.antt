-- What was put after the bytes that a room holds. Private contracts cite this.
use Rattle.std.specs.Prelude.{◌≡◌, ℕ, List, ◌++◌, cond, nat_eq, get_or, take}
use Rattle.sheet_text.specs.inside.Spelled.{PrintsTo}

-- how many of four bytes count: all where the second is an x, and else the first alone
abbrev pub size_of : List ℕ → ℕ
size_of text = cond (nat_eq (get_or text 1 0) 120) 4 1

-- What the bytes from the one offset to the other stand for was put after the first `used` bytes; `held` bytes are there then.
abbrev pub Puts : List ℕ → ℕ → ℕ → List ℕ → ℕ → List ℕ → ℕ → Type 0
Puts bytes from to old used new held = (text : List ℕ) × (take held new ≡ take used old ++ text) × PrintsTo bytes from to text

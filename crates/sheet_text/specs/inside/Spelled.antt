-- What is printed of bytes that spell a block, one byte after another. Private contracts cite this.
use Rattle.std.specs.Prelude.{◌≡◌, ℕ, Bool, true, false, List, [], ◌∷◌, ◌++◌, cond, nat_eq, drop}
use Rattle.meta_format.specs.Spelling.{is_special}
use Rattle.sheet_text.specs.Escape.{printed_byte}

-- a byte that isn't 27 and doesn't follow one
abbrev pub spelled_byte : ℕ → List ℕ
spelled_byte c = cond (nat_eq c 2) (123 ∷ []) (cond (nat_eq c 5) (125 ∷ []) (printed_byte false c))

-- a byte after a 27, with that 27 where it spells itself
abbrev pub after_escape : ℕ → List ℕ
after_escape c = cond (is_special c) (printed_byte false c) (printed_byte false 27 ++ printed_byte false c)

-- all bytes, of which the first follows a 27 or not
abbrev pub spelled_text : Bool → List ℕ → List ℕ
spelled_text escaped [] = []
spelled_text false (c ∷ s) = cond (nat_eq c 27) (spelled_text true s) (spelled_byte c ++ spelled_text false s)
spelled_text true (c ∷ s) = after_escape c ++ spelled_text false s

-- The bytes from the one offset to the other are printed so.
abbrev pub PrintsTo : List ℕ → ℕ → ℕ → List ℕ → Type 0
PrintsTo bytes from to text = spelled_text false (drop from bytes) ≡ text ++ spelled_text false (drop to bytes)

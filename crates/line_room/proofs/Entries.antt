-- The table of what bytes stand for, held against the definition at each of the 256 bytes, by computing.
use Rattle.std.proofs.Common.{◌≡◌, ◌≤◌, ◌<◌, ℕ, zero, suc, Bool, true, false, ◌&&◌, List, [], take, get_or, nat_eq, cond, refl, arith}
use Rattle.std.specs.Str.{bytes_eq}
use Rattle.std.proofs.lemmas.Bool.Decides.{Decides-below_and}
use Rattle.std.proofs.lemmas.Slice.Eq.{bytes_eq-Decides}
use Rattle.sheet_text.specs.inside.Spelled.{spelled_byte}
use Rattle.line_room.specs.declared.table.TheConstants.{SPELLED}
use Rattle.line_room.specs.inside.Puts.{size_of}

abbrev entry : ℕ → List ℕ
entry b = get_or SPELLED b []

abbrev counted : ℕ → List ℕ
counted b = take (size_of (entry b)) (entry b)

abbrev entries_match : ℕ → Bool
entries_match zero = true
entries_match (suc n) = bytes_eq (counted n) (spelled_byte n) && entries_match n

entries_checked : entries_match 256 ≡ true
entries_checked = refl

pub spelled_entry : (b : ℕ) → b < 256 → take (size_of (get_or SPELLED b [])) (get_or SPELLED b []) ≡ spelled_byte b
spelled_entry =
    (Decides-below_and (λ b. bytes_eq (counted b) (spelled_byte b)) (λ b. counted b ≡ spelled_byte b) entries_match (λ b. bytes_eq-Decides _ _) refl (λ _. refl) 256).0 entries_checked

few : (x : Bool) → cond x 4 1 ≤ 4
few true = omega arith
few false = omega arith

pub size_few : (t : List ℕ) → size_of t ≤ 4
size_few t = few (nat_eq (get_or t 1 0) 120)

-- Texts of a page, byte by byte.
use Rattle.std.proofs.Common.{◌≡◌, ℕ, ◌-◌, Bool, List, [], ◌∷◌, nat_lt, length, arith, refl, Option}
use Rattle.std.specs.Io.KnownBytes.{Appends}
use Rattle.sheet_export.specs.References.{belonging, html_after, html_byte}
use Rattle.sheet_export.proofs.Written.{Written, part_written, all_written}

-- a byte is written
pub byte_written : (keeps_lines : Bool) (left : ℕ) (byte : ℕ) (bytes others : List ℕ) (a b c : Option (List ℕ)) (all : List ℕ) → bytes ≡ byte ∷ others
    → Written a b (html_after keeps_lines left bytes) all → Appends b c (html_byte keeps_lines (nat_lt 0 (belonging left bytes)) byte)
    → Written a c (html_after keeps_lines (belonging left bytes - 1) others) all
unfolding html_after
byte_written keeps_lines left byte bytes others a b c all e w p =
    part_written a b c (html_after keeps_lines left bytes) (html_byte keeps_lines (nat_lt 0 (belonging left bytes)) byte) (html_after keeps_lines (belonging left bytes - 1) others) all
    (rw e refl) w p

pub text_written : (keeps_lines : Bool) (left : ℕ) (bytes : List ℕ) (a b : Option (List ℕ)) (all : List ℕ) → length bytes ≡ 0 → Written a b (html_after keeps_lines left bytes) all → Appends a b all
unfolding html_after
text_written keeps_lines left [] a b all e w = all_written a b [] all refl w
text_written keeps_lines left (byte ∷ bytes) a b all e w = absurd (omega (arith, e))

pub ruleset text_steps = (byte_written, text_written)

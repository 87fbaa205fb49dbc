-- Base64, three bytes by three.
use Rattle.std.proofs.Common.{◌≡◌, ℕ, List, [], ◌∷◌, length, arith, refl, Option}
use Rattle.std.specs.Io.KnownBytes.{Appends}
use Rattle.sheet_export.specs.Pictures.{in_base64, symbols_of, symbols_of_one, symbols_of_two}
use Rattle.sheet_export.proofs.Written.{Written, nothing_written, part_written, all_written}

-- three bytes are written
pub group_written : (x y z : ℕ) (bytes following further others : List ℕ) (a b c : Option (List ℕ)) (all : List ℕ) → bytes ≡ x ∷ following → following ≡ y ∷ further → further ≡ z ∷ others
    → Written a b (in_base64 bytes) all → Appends b c (symbols_of x y z) → Written a c (in_base64 others) all
unfolding in_base64
group_written x y z bytes following further others a b c all e f g w p = part_written a b c (in_base64 bytes) (symbols_of x y z) (in_base64 others) all (rw (e, f, g) refl) w p

-- the last two
pub two_written : (x y : ℕ) (bytes following further : List ℕ) (a b c : Option (List ℕ)) (all : List ℕ) → bytes ≡ x ∷ following → following ≡ y ∷ further → length further ≡ 0
    → Written a b (in_base64 bytes) all → Appends b c (symbols_of_two x y) → Appends a c all
unfolding in_base64
two_written x y bytes following [] a b c all e f g w p = all_written a c [] all refl (part_written a b c (in_base64 bytes) (symbols_of_two x y) [] all (rw (e, f) refl) w p)
two_written x y bytes following (z ∷ others) a b c all e f g w p = absurd (omega (arith, g))

-- the last one
pub one_written : (x : ℕ) (bytes following : List ℕ) (a b c : Option (List ℕ)) (all : List ℕ) → bytes ≡ x ∷ following → length following ≡ 0
    → Written a b (in_base64 bytes) all → Appends b c (symbols_of_one x) → Appends a c all
unfolding in_base64
one_written x bytes [] a b c all e g w p = all_written a c [] all refl (part_written a b c (in_base64 bytes) (symbols_of_one x) [] all (rw e refl) w p)
one_written x bytes (y ∷ others) a b c all e g w p = absurd (omega (arith, g))

-- none
pub none_written : (bytes : List ℕ) (a b : Option (List ℕ)) (all : List ℕ) → length bytes ≡ 0 → Written a b (in_base64 bytes) all → Appends a b all
unfolding in_base64
none_written [] a b all e w = all_written a b [] all refl w
none_written (x ∷ bytes) a b all e w = absurd (omega (arith, e))

pub ruleset group_steps = (nothing_written, group_written, two_written, one_written, none_written)

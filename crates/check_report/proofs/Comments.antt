-- Comments, byte by byte.
use Rattle.std.proofs.Common.{◌≡◌, ◌==◌, ℕ, Bool, List, [], ◌∷◌, length, arith, refl, sym, append-nil, Option}
use Rattle.std.specs.Io.KnownBytes.{Appends}
use Rattle.check_report.specs.Tap.{comment_byte, comments_after, comments_end}
use Rattle.check_report.proofs.Written.{Written, nothing_written, part_written, all_written}

-- a byte is written
pub byte_commented : (begins : Bool) (byte : ℕ) (bytes others : List ℕ) (a b c : Option (List ℕ)) (all : List ℕ) → bytes ≡ byte ∷ others
    → Written a b (comments_after begins bytes) all → Appends b c (comment_byte begins byte) → Written a c (comments_after (byte == 10) others) all
unfolding comments_after
byte_commented begins byte bytes others a b c all e w p =
    part_written a b c (comments_after begins bytes) (comment_byte begins byte) (comments_after (byte == 10) others) all (rw e refl) w p

pub text_commented : (begins : Bool) (bytes : List ℕ) (a b c : Option (List ℕ)) (all : List ℕ) → length bytes ≡ 0
    → Written a b (comments_after begins bytes) all → Appends b c (comments_end begins) → Appends a c all
unfolding comments_after
text_commented begins [] a b c all e w p =
    all_written a c [] all refl (part_written a b c (comments_end begins) (comments_end begins) [] all (sym (append-nil (comments_end begins))) w p)
text_commented begins (byte ∷ bytes) a b c all e w p = absurd (omega (arith, e))

pub ruleset comment_steps = (nothing_written, byte_commented, text_commented)

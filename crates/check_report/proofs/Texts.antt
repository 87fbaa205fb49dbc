-- Texts in XML, byte by byte.
use Rattle.std.proofs.Common.{◌≡◌, ℕ, ◌-◌, List, [], ◌∷◌, nat_lt, length, arith, refl, Option}
use Rattle.std.specs.Io.KnownBytes.{Appends}
use Rattle.check_report.specs.Xml.{xml_belonging, xml_after, xml_byte}
use Rattle.check_report.proofs.Written.{Written, part_written, all_written}

-- a byte is written
pub byte_written : (left : ℕ) (byte : ℕ) (bytes others : List ℕ) (a b c : Option (List ℕ)) (all : List ℕ) → bytes ≡ byte ∷ others
    → Written a b (xml_after left bytes) all → Appends b c (xml_byte (nat_lt 0 (xml_belonging left bytes)) byte)
    → Written a c (xml_after (xml_belonging left bytes - 1) others) all
unfolding xml_after
byte_written left byte bytes others a b c all e w p =
    part_written a b c (xml_after left bytes) (xml_byte (nat_lt 0 (xml_belonging left bytes)) byte) (xml_after (xml_belonging left bytes - 1) others) all (rw e refl) w p

pub text_written : (left : ℕ) (bytes : List ℕ) (a b : Option (List ℕ)) (all : List ℕ) → length bytes ≡ 0 → Written a b (xml_after left bytes) all → Appends a b all
unfolding xml_after
text_written left [] a b all e w = all_written a b [] all refl w
text_written left (byte ∷ bytes) a b all e w = absurd (omega (arith, e))

pub ruleset text_steps = (byte_written, text_written)

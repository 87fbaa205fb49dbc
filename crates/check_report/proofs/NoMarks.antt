-- Texts in XML have no marks.
use Rattle.std.proofs.Common.{◌≡◌, ℕ, ◌-◌, Bool, true, false, cond, List, [], ◌∷◌, ◌++◌, refl, ap, ◌∙◌}
use Rattle.std.specs.Prelude.{◌==◌, ◌&&◌, ◌||◌, not, nat_lt}
use Rattle.std.specs.List.{list_all}
use Rattle.std.proofs.lemmas.List.Folds.{list_all-append}
use Rattle.check_report.specs.Xml.{xml_belonging, stays_in_xml, xml_reference, replacement, xml_after, xml_byte}
use Rattle.check_report.specs.Laws.{has_xml_references_alone, is_xml_mark, XmlHasNoMarks}

abbrev pub passes : ℕ → Bool
passes byte = not (is_xml_mark byte)

unmarked : (n : ℕ) → (n == 60) ≡ false → (n == 62) ≡ false → (n == 34) ≡ false → stays_in_xml n ≡ true → passes n ≡ true
unmarked n a b c kept = last (n == 60) (n == 62) (n == 34) (stays_in_xml n) a b c kept
  where
    last : (p q r s : Bool) → p ≡ false → q ≡ false → r ≡ false → s ≡ true → not (p || q || r || not s) ≡ true
    last p q r s e f g h = rw (e, f, g, h) refl

both : (a b : Bool) → a ≡ true → b ≡ true → (a && b) ≡ true
both a b p q = rw (p, q) refl

reference_passes : (b : ℕ) → stays_in_xml b ≡ true → list_all passes (xml_reference b) ≡ true
reference_passes b kept = amp (b == 38) refl
  where
    quote : (b == 38) ≡ false → (b == 60) ≡ false → (b == 62) ≡ false → (t : Bool) → (b == 34) ≡ t → list_all passes (xml_reference b) ≡ true
    quote p q r true e = rw (p, q, r, e) refl
    quote p q r false e =
        let itself : xml_reference b ≡ b ∷ [] = rw (p, q, r, e) refl in
        ap (list_all passes) itself ∙ both (passes b) true (unmarked b q r e kept) refl

    greater : (b == 38) ≡ false → (b == 60) ≡ false → (t : Bool) → (b == 62) ≡ t → list_all passes (xml_reference b) ≡ true
    greater p q true e = rw (p, q, e) refl
    greater p q false e = quote p q e (b == 34) refl

    less : (b == 38) ≡ false → (t : Bool) → (b == 60) ≡ t → list_all passes (xml_reference b) ≡ true
    less p true e = rw (p, e) refl
    less p false e = greater p e (b == 62) refl

    amp : (t : Bool) → (b == 38) ≡ t → list_all passes (xml_reference b) ≡ true
    amp true e = rw e refl
    amp false e = less e (b == 60) refl

byte_passes : (belongs : Bool) (b : ℕ) → list_all passes (xml_byte belongs b) ≡ true
byte_passes false b = refl
byte_passes true b = go (stays_in_xml b) refl
  where
    go : (t : Bool) → stays_in_xml b ≡ t → list_all passes (xml_byte true b) ≡ true
    go true e = ap (λ t. list_all passes (cond t (xml_reference b) replacement)) e ∙ reference_passes b e
    go false e = ap (λ t. list_all passes (cond t (xml_reference b) replacement)) e

unmarked_text : (left : ℕ) (bytes : List ℕ) → list_all passes (xml_after left bytes) ≡ true
unfolding xml_after
unmarked_text left [] = refl
unmarked_text left (b ∷ bytes) =
    let n = xml_belonging left (b ∷ bytes) in
    list_all-append passes (xml_byte (nat_lt 0 n) b) (xml_after (n - 1) bytes)
    ∙ both (list_all passes (xml_byte (nat_lt 0 n) b)) (list_all passes (xml_after (n - 1) bytes)) (byte_passes (nat_lt 0 n) b) (unmarked_text (n - 1) bytes)

-- References.

reference_keeps : (b : ℕ) (rest : List ℕ) → has_xml_references_alone (xml_reference b ++ rest) ≡ has_xml_references_alone rest
reference_keeps b rest = amp (b == 38) refl
  where
    quote : (b == 38) ≡ false → (b == 60) ≡ false → (b == 62) ≡ false → (t : Bool) → (b == 34) ≡ t → has_xml_references_alone (xml_reference b ++ rest) ≡ has_xml_references_alone rest
    quote p q r true e = rw (p, q, r, e) refl
    quote p q r false e =
        let itself : xml_reference b ≡ b ∷ [] = rw (p, q, r, e) refl in
        ap (λ f. has_xml_references_alone (f ++ rest)) itself ∙ (rw p refl)

    greater : (b == 38) ≡ false → (b == 60) ≡ false → (t : Bool) → (b == 62) ≡ t → has_xml_references_alone (xml_reference b ++ rest) ≡ has_xml_references_alone rest
    greater p q true e = rw (p, q, e) refl
    greater p q false e = quote p q e (b == 34) refl

    less : (b == 38) ≡ false → (t : Bool) → (b == 60) ≡ t → has_xml_references_alone (xml_reference b ++ rest) ≡ has_xml_references_alone rest
    less p true e = rw (p, e) refl
    less p false e = greater p e (b == 62) refl

    amp : (t : Bool) → (b == 38) ≡ t → has_xml_references_alone (xml_reference b ++ rest) ≡ has_xml_references_alone rest
    amp true e = rw e refl
    amp false e = less e (b == 60) refl

byte_keeps : (belongs : Bool) (b : ℕ) (rest : List ℕ) → has_xml_references_alone (xml_byte belongs b ++ rest) ≡ has_xml_references_alone rest
byte_keeps belongs b rest = go (belongs && stays_in_xml b)
  where
    go : (t : Bool) → has_xml_references_alone (cond t (xml_reference b) replacement ++ rest) ≡ has_xml_references_alone rest
    go true = reference_keeps b rest
    go false = refl

referenced_text : (left : ℕ) (bytes : List ℕ) → has_xml_references_alone (xml_after left bytes) ≡ true
unfolding xml_after
referenced_text left [] = refl
referenced_text left (b ∷ bytes) =
    let n = xml_belonging left (b ∷ bytes) in
    byte_keeps (nat_lt 0 n) b (xml_after (n - 1) bytes) ∙ referenced_text (n - 1) bytes

pub no_marks : XmlHasNoMarks
no_marks bytes = (unmarked_text 0 bytes, referenced_text 0 bytes)

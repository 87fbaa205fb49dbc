-- A worksheet's lines, one after another.
use Rattle.std.proofs.Common.{◌≡◌, ℕ, List, [], ◌∷◌, ◌++◌, map, refl, ap, sym, ◌∙◌, append_assoc, append-nil}
use Rattle.worksheet.specs.Contents.{Contents}
use Rattle.worksheet.specs.declared.field.Field.{Field}
use Rattle.sheet_json.specs.Sheets.{fields_text, sheet_lines, telling_line, tellings_text}
use Rattle.sheet_json.specs.Shown.{still_field, whole_of}
use Rattle.sheet_json.specs.Tellings.{Telling}
use Rattle.sheet_json.specs.Tellings as reported

-- the fields of a front are added, and these are to come
abbrev pub Writing : List ℕ → List ℕ → List Field → List Field → Type 0
Writing old now ahead all = now ++ fields_text ahead ≡ old ++ fields_text all

pub one_written : (old now more : List ℕ) (field : Field) (fields others all : List Field) → fields ≡ field ∷ others → Writing old now fields all → more ≡ now ++ telling_line (still_field field) → Writing old more others all
one_written old now more field fields others all e w grown =
    ap (λ b. b ++ fields_text others) grown ∙ append_assoc now (telling_line (still_field field)) (fields_text others) ∙ ap (λ f. now ++ fields_text f) (sym e) ∙ w

pub all_written : (old now : List ℕ) (fields all : List Field) → fields ≡ [] → Writing old now fields all → now ≡ old ++ fields_text all
all_written old now fields all e w = sym (append-nil now) ∙ ap (λ f. now ++ fields_text f) (sym e) ∙ w

pub ruleset field_steps = (one_written, all_written)

texts_append : (xs ys : List Telling) → tellings_text (xs ++ ys) ≡ tellings_text xs ++ tellings_text ys
texts_append [] ys = refl
texts_append (x ∷ xs) ys = ap (λ t. telling_line x ++ t) (texts_append xs ys) ∙ sym (append_assoc (telling_line x) (tellings_text xs) (tellings_text ys))

pub sheet_made : (a b c d e : List ℕ) (sheet : Contents) → a ≡ [] → b ≡ a ++ telling_line reported.hello → c ≡ b ++ fields_text sheet.fields → d ≡ c ++ telling_line (whole_of sheet) → e ≡ d ++ telling_line reported.end → e ≡ sheet_lines sheet
sheet_made a b c d e sheet is_a is_b is_c is_d is_e =
    let begun : b ≡ telling_line reported.hello = is_b ∙ ap (λ x. x ++ telling_line reported.hello) is_a in
    is_e ∙ ap (λ x. x ++ telling_line reported.end) is_d ∙ append_assoc c (telling_line (whole_of sheet)) (telling_line reported.end)
    ∙ ap (λ x. x ++ (telling_line (whole_of sheet) ++ telling_line reported.end)) (is_c ∙ ap (λ x. x ++ fields_text sheet.fields) begun)
    ∙ append_assoc (telling_line reported.hello) (fields_text sheet.fields) (telling_line (whole_of sheet) ++ telling_line reported.end)
    ∙ ap (λ t. telling_line reported.hello ++ (fields_text sheet.fields ++ (telling_line (whole_of sheet) ++ t))) (sym (append-nil (telling_line reported.end)))
    ∙ ap (λ t. telling_line reported.hello ++ t) (sym (texts_append (map still_field sheet.fields) (whole_of sheet ∷ reported.end ∷ [])))

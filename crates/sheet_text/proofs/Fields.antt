-- The fields that are printed, and those that are still to come.
use Rattle.std.proofs.KnownBytes.{Appends-trans, Appends-nil}
use Rattle.std.proofs.Common.{◌≡◌, ℕ, List, [], ◌∷◌, ◌++◌, flat_map, refl, ap, sym, ◌∙◌, subst, append_assoc, append-nil, Option}
use Rattle.std.specs.Io.KnownBytes.{Appends}
use Rattle.worksheet.specs.declared.field.Field.{Field}
use Rattle.sheet_text.specs.Texts.{field_text}

-- the text of the fields that are gone is written, and that of the rest is to come
pub record Written (a b : Option (List ℕ)) (rest all : List Field) : Type 0 where
  pub text : List ℕ
  pub wrote : Appends a b text
  pub whole : text ++ flat_map field_text rest ≡ flat_map field_text all

pub nothing_written : (a : Option (List ℕ)) (all : List Field) → Written a a all all
nothing_written a all = record { text = []; wrote = Appends-nil a; whole = refl }

pub one_written : (a b c : Option (List ℕ)) (rest : List Field) (field : Field) (others all : List Field) → rest ≡ field ∷ others → Written a b rest all → Appends b c (field_text field) → Written a c others all
one_written a b c rest field others all e w p = record {
  text = w.text ++ field_text field;
  wrote = Appends-trans a b c w.text (field_text field) w.wrote p;
  whole = append_assoc w.text (field_text field) (flat_map field_text others) ∙ ap (λ fs. w.text ++ flat_map field_text fs) (sym e) ∙ w.whole;
}

pub all_written : (a b : Option (List ℕ)) (rest all : List Field) → rest ≡ [] → Written a b rest all → Appends a b (flat_map field_text all)
all_written a b rest all e w = subst (Appends a b) (sym (append-nil w.text) ∙ ap (λ fs. w.text ++ flat_map field_text fs) (sym e) ∙ w.whole) w.wrote

pub ruleset field_steps = (nothing_written, one_written, all_written)

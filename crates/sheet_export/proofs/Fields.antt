-- Fields of a page, one after another.
use Rattle.std.proofs.Common.{◌≡◌, ℕ, List, [], ◌∷◌, flat_map, refl, Option}
use Rattle.std.specs.Io.KnownBytes.{Appends}
use Rattle.worksheet.specs.declared.field.Field.{Field}
use Rattle.sheet_export.specs.Html.{field_html}
use Rattle.sheet_export.proofs.Written.{Written, nothing_written, part_written, all_written}

-- a field is written
pub field_written : (field : Field) (fields others : List Field) (a b c : Option (List ℕ)) (all : List ℕ) → fields ≡ field ∷ others → Written a b (flat_map field_html fields) all → Appends b c (field_html field)
    → Written a c (flat_map field_html others) all
field_written field fields others a b c all e w p = part_written a b c (flat_map field_html fields) (field_html field) (flat_map field_html others) all (rw e refl) w p

pub fields_written : (fields : List Field) (a b : Option (List ℕ)) (all : List ℕ) → fields ≡ [] → Written a b (flat_map field_html fields) all → Appends a b all
fields_written fields a b all e w = all_written a b (flat_map field_html fields) all (rw e refl) w

pub ruleset field_steps = (nothing_written, field_written, fields_written)

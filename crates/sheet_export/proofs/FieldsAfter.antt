-- Fields of Markdown, one after another.
use Rattle.std.proofs.Common.{◌≡◌, ℕ, List, [], ◌∷◌, refl, Option}
use Rattle.std.specs.Io.KnownBytes.{Appends}
use Rattle.worksheet.specs.declared.field.Field.{Field}
use Rattle.sheet_export.specs.Markdown.{field_markdown, fields_after, fields_markdown}
use Rattle.sheet_export.proofs.Written.{Written, nothing_written, part_written, all_written}

-- the first field is written
pub first_written : (field : Field) (fields others : List Field) (a b : Option (List ℕ)) → fields ≡ field ∷ others → Appends a b (field_markdown field)
    → Written a b (fields_after others) (fields_markdown fields)
first_written field fields others a b e p =
    part_written a a b (fields_markdown fields) (field_markdown field) (fields_after others) (fields_markdown fields) (rw e refl) (nothing_written a (fields_markdown fields)) p

-- a field is written after others
pub next_written : (field : Field) (fields others : List Field) (a b c : Option (List ℕ)) (all : List ℕ) → fields ≡ field ∷ others → Written a b (fields_after fields) all → Appends b c (10 ∷ field_markdown field)
    → Written a c (fields_after others) all
next_written field fields others a b c all e w p = part_written a b c (fields_after fields) (10 ∷ field_markdown field) (fields_after others) all (rw e refl) w p

pub last_written : (fields : List Field) (a b : Option (List ℕ)) (all : List ℕ) → fields ≡ [] → Written a b (fields_after fields) all → Appends a b all
last_written fields a b all e w = all_written a b (fields_after fields) all (rw e refl) w

pub ruleset markdown_steps = (first_written, next_written, last_written)

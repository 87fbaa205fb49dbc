-- The lines of a script, one after another.
use Rattle.std.proofs.KnownBytes.{Appends-trans}
use Rattle.std.proofs.Common.{◌≡◌, ◌+◌, ℕ, Bool, true, false, List, [], ◌∷◌, ◌++◌, map, refl, sym, subst, Option}
use Rattle.std.specs.Prelude.{◌&&◌}
use Rattle.std.proofs.lemmas.Grind.{flat_map-append}
use Rattle.std.specs.Io.KnownBytes.{Appends}
use Rattle.worksheet.specs.Contents.{Contents}
use Rattle.worksheet.specs.declared.field.Field.{Field}
use Rattle.worksheet.specs.declared.field.Session.{Session}
use Rattle.sheet_export.specs.Script.{field_line, field_lines, has_few_fields, has_script, have_lines, lines_text, script_text, session_line}
use Rattle.sheet_export.proofs.Written.{Written, nothing_written, part_written, all_written}

-- the line of a session is written
pub session_written : (session : Session) (sessions others : List Session) (a b c : Option (List ℕ)) (all : List ℕ) → sessions ≡ session ∷ others → Written a b (lines_text (map session_line sessions)) all
    → Appends b c (session_line session ++ 10 ∷ []) → Written a c (lines_text (map session_line others)) all
session_written session sessions others a b c all e w p =
    part_written a b c (lines_text (map session_line sessions)) (session_line session ++ 10 ∷ []) (lines_text (map session_line others)) all (rw e refl) w p

pub sessions_written : (sessions : List Session) (a b : Option (List ℕ)) (all : List ℕ) → sessions ≡ [] → Written a b (lines_text (map session_line sessions)) all → Appends a b all
sessions_written sessions a b all e w = all_written a b (lines_text (map session_line sessions)) all (rw e refl) w

pub ruleset session_steps = (nothing_written, session_written, sessions_written)

-- the line of a field is written
pub field_written : (place : ℕ) (field : Field) (fields others : List Field) (a b c : Option (List ℕ)) (all : List ℕ) → fields ≡ field ∷ others → Written a b (lines_text (field_lines place fields)) all
    → Appends b c (field_line place field ++ 10 ∷ []) → Written a c (lines_text (field_lines (place + 1) others)) all
field_written place field fields others a b c all e w p =
    part_written a b c (lines_text (field_lines place fields)) (field_line place field ++ 10 ∷ []) (lines_text (field_lines (place + 1) others)) all (rw e refl) w p

pub fields_written : (place : ℕ) (fields : List Field) (a b : Option (List ℕ)) (all : List ℕ) → fields ≡ [] → Written a b (lines_text (field_lines place fields)) all → Appends a b all
fields_written place fields a b all e w = all_written a b (lines_text (field_lines place fields)) all (rw e refl) w

pub ruleset field_steps = (nothing_written, field_written, fields_written)

-- both
pub script_written : (sheet : Contents) (a b c : Option (List ℕ)) → Appends a b (lines_text (map session_line sheet.sessions)) → Appends b c (lines_text (field_lines 0 sheet.fields)) → Appends a c (script_text sheet)
script_written sheet a b c p q =
    subst (Appends a c) (sym (flat_map-append (λ line. line ++ 10 ∷ []) (map session_line sheet.sessions) (field_lines 0 sheet.fields)))
    (Appends-trans a b c (lines_text (map session_line sheet.sessions)) (lines_text (field_lines 0 sheet.fields)) p q)

pub few_of : (sheet : Contents) → has_script sheet ≡ true → has_few_fields sheet ≡ true
few_of sheet h = go (have_lines sheet.sessions) (has_few_fields sheet) h
  where
    go : (a b : Bool) → (a && b) ≡ true → b ≡ true
    go true b e = e
    go false b e = cc

pub ruleset script_steps = (script_written, few_of)

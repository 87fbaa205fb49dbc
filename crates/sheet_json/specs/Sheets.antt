-- What is printed of a worksheet that no host has, as lines of JSON.
use Rattle.std.specs.Prelude.{ℕ, List, map}
use Rattle.std.specs.List.{flat_map}
use Rattle.worksheet.specs.Contents.{Contents}
use Rattle.worksheet.specs.declared.field.Field.{Field}
use Rattle.sheet_json.specs.Lines.{json_line}
use Rattle.sheet_json.specs.Objects.{telling_data}
use Rattle.sheet_json.specs.Shown.{sheet_tellings, still_field}
use Rattle.sheet_json.specs.Tellings.{Telling}

abbrev pub telling_line : Telling → List ℕ
telling_line t = json_line (telling_data t)

abbrev pub tellings_text : List Telling → List ℕ
tellings_text tellings = flat_map telling_line tellings

-- the fields in their order
abbrev pub fields_text : List Field → List ℕ
fields_text fields = tellings_text (map still_field fields)

abbrev pub sheet_lines : Contents → List ℕ
sheet_lines sheet = tellings_text (sheet_tellings sheet)

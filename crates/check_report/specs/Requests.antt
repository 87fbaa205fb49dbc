-- What the words of a command line ask a check for.
use Rattle.std.specs.Prelude.{◌≡◌, ◌⊎◌, ℕ, Bool, true, false, List, [], Option, Some, None, Result, Ok, Err, codes, option_map, if◌then◌else◌}
use Rattle.std.specs.Str.{bytes_eq}
use Rattle.worksheet.specs.Names.{is_name}
use Rattle.check_report.specs.declared.chosen.Chosen.{Chosen}
use Rattle.check_report.specs.declared.chosen.Ids.{Ids}
use Rattle.check_report.specs.declared.report.ReportFormat.{ReportFormat}
use Rattle.check_report.specs.declared.report.ReportFormat.TheVariants as format
use Rattle.check_report.specs.declared.request.FieldWords.{FieldWords}
use Rattle.check_report.specs.declared.request.ReportWords.{ReportWords}
use Rattle.check_report.specs.declared.request.Request.{Request}
use Rattle.check_report.specs.declared.request.RequestFault.{RequestFault}
use Rattle.check_report.specs.declared.request.RequestFault.TheVariants as fault
use Rattle.check_report.specs.IdLists.{ids_named}

-- the format of this name
abbrev pub report_named : List ℕ → Option ReportFormat
report_named name = if bytes_eq name (codes "text") then Some format.Text
    else (if bytes_eq name (codes "tap") then Some format.Tap
    else (if bytes_eq name (codes "junit") then Some format.Junit
    else (if bytes_eq name (codes "json") then Some format.Json else None)))

-- the format of a name, where it has one
abbrev pub named_or_none : Option ReportFormat → Result ReportFormat RequestFault
named_or_none None = Err fault.Format
named_or_none (Some named) = Ok named

-- The format that is asked for, by whether lines of JSON are, and by the name of a format: in words, where neither is. Both at once are
-- refused.
abbrev pub format_asked : Bool → Option (List ℕ) → Result ReportFormat RequestFault
format_asked false None = Ok format.Text
format_asked true None = Ok format.Json
format_asked false (Some name) = named_or_none (report_named name)
format_asked true (Some name) = Err fault.Both

-- answers that differ are accepted in words alone
abbrev pub accepting : ReportFormat → Option ReportFormat
accepting format.Text = Some format.Accepting
accepting format.Whole = None
accepting format.Tap = None
accepting format.Junit = None
accepting format.Json = None
accepting format.Accepting = Some format.Accepting

-- and whole outputs are written in words alone
abbrev pub in_whole : ReportFormat → Option ReportFormat
in_whole format.Text = Some format.Whole
in_whole format.Whole = Some format.Whole
in_whole format.Tap = None
in_whole format.Junit = None
in_whole format.Json = None
in_whole format.Accepting = None

-- the words of a report: whether answers that differ are accepted, whether outputs are whole, whether it is lines of JSON, and its format
pub record ReportView : Type 0 where
  pub accept : Bool
  pub whole : Bool
  pub json : Bool
  pub format : Option (List ℕ)

abbrev pub report_words : Bool → Bool → Bool → Option (List ℕ) → ReportView
report_words accept whole json format = record { accept = accept; whole = whole; json = json; format = format }

-- these words as contracts see them
abbrev pub report_view : ReportWords → ReportView
report_view words = report_words words.accept words.whole words.json (option_map (λ text. text.now) words.format)

-- The report that is asked for: in a format, and whether answers that differ are accepted, or outputs are whole. Both at once are refused.
abbrev pub report_asked : Bool → Bool → ReportFormat → Option ReportFormat
report_asked false false format = Some format
report_asked true false format = accepting format
report_asked false true format = in_whole format
report_asked true true format = None

-- a format is asked for, and this is the report
abbrev pub AsksReport : ReportView → ReportFormat → Type 0
AsksReport words report = (named : ReportFormat) × (format_asked words.json words.format ≡ Ok named) × (report_asked words.accept words.whole named ≡ Some report)

-- a format is asked for that has no such report, by whether outputs are to be whole
abbrev pub AsksNoReport : Bool → ReportView → Type 0
AsksNoReport whole words = (words.whole ≡ whole) × ((named : ReportFormat) × (format_asked words.json words.format ≡ Ok named) × (report_asked words.accept words.whole named ≡ None))

-- the session that is asked for, where one is, and it can be the name of one
abbrev pub session_asked : Option (List ℕ) → Option (Option (List ℕ))
session_asked None = Some None
session_asked (Some name) = if is_name name then Some (Some name) else None

-- the numbers of the fields that are left out
abbrev pub ids_asked : Option (List ℕ) → Option (List Ids)
ids_asked None = Some []
ids_asked (Some text) = ids_named text

-- the numbers of those that are compared, where any are named
abbrev pub some_ids : Option (List Ids) → Option (Option (List Ids))
some_ids None = None
some_ids (Some ids) = Some (Some ids)

abbrev pub compared_asked : Option (List ℕ) → Option (Option (List Ids))
compared_asked None = Some None
compared_asked (Some text) = some_ids (ids_named text)

-- the words that say which fields: the session that they are of, the numbers of those that are left out, and of those that are compared, and
-- whether those that show no answer are checked too
pub record FieldView : Type 0 where
  pub only : Option (List ℕ)
  pub left_out : Option (List ℕ)
  pub compared : Option (List ℕ)
  pub all : Bool

abbrev pub field_words : Option (List ℕ) → Option (List ℕ) → Option (List ℕ) → Bool → FieldView
field_words only left_out compared all = record { only = only; left_out = left_out; compared = compared; all = all }

-- these words as contracts see them
abbrev pub fields_view : FieldWords → FieldView
fields_view words = field_words (option_map (λ text. text.now) words.only) (option_map (λ text. text.now) words.left_out) (option_map (λ text. text.now) words.compared) words.all

abbrev pub AsksFields : FieldView → Chosen → Type 0
AsksFields words chosen = (session_asked words.only ≡ Some chosen.only) × (ids_asked words.left_out ≡ Some chosen.left_out) × (compared_asked words.compared ≡ Some chosen.compared) × (chosen.all ≡ words.all)

-- all that is asked for has a form
abbrev pub Asks : ReportView → FieldView → Request → Type 0
Asks words fields request = AsksReport words request.format × AsksFields fields request.chosen

-- what is asked for has no form, for this reason, or there was no memory
abbrev pub AsksNone : ReportView → FieldView → RequestFault → Type 0
AsksNone words fields fault.Format = format_asked words.json words.format ≡ Err fault.Format
AsksNone words fields fault.Session = session_asked fields.only ≡ None
AsksNone words fields fault.Ids = (ids_asked fields.left_out ≡ None) ⊎ (compared_asked fields.compared ≡ None)
AsksNone words fields fault.OutOfMemory = Unit {0}
AsksNone words fields fault.Accepting = AsksNoReport false words
AsksNone words fields fault.Whole = AsksNoReport true words
AsksNone words fields fault.Both = format_asked words.json words.format ≡ Err fault.Both

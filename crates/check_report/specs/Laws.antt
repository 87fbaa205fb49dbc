-- Laws of the definitions.
use Rattle.std.specs.Prelude.{ℕ, ◌+◌, Bool, List, [], ◌∷◌, ◌++◌, Option, Some, None, is_some, ◌≡◌, ◌<◌, ◌^◌, ◌==◌, ◌||◌, ◌&&◌, not, nat_eq, true, false, codes, cond, drop, length, map, take, slice_index}
use Rattle.std.specs.List.{AllByRecursion, filter, flat_map, list_all, list_any, starts_with}
use Rattle.bstr.specs.Text.{lines_of}
use Rattle.block_tree.specs.Tree.{Items, Tree, end, text, block}
use Rattle.worksheet.specs.Names.{is_name}
use Rattle.sheet_text.specs.Blocks.{block_text}
use Rattle.sheet_notebook.specs.Pictures.{picture_named, picture_of}
use Rattle.sheet_json.specs.Lines.{IsOneLine}
use Rattle.sheet_json.specs.Plain.{IsSoundTelling}
use Rattle.sheet_json.specs.Sheets.{telling_line, tellings_text}
use Rattle.sheet_json.specs.Tellings.{Telling}
use Rattle.sheet_json.specs.Tellings as reported
use Rattle.sheet_json.specs.declared.checks.Took.{Took}
use Rattle.check_report.specs.declared.report.ReportFormat.TheVariants as format
use Rattle.check_report.specs.declared.hunks.Hunk.{Hunk}
use Rattle.check_report.specs.Brief.{brief_text}
use Rattle.check_report.specs.Hunks.{hunk_of, lines_added, some_lines, lines_removed, tail_start}
use Rattle.check_report.specs.Points.{Point}
use Rattle.check_report.specs.Json.{counts_reported}
use Rattle.check_report.specs.Reports.{Case, point_of, report_text, telling_of, judgements_of}
use Rattle.check_report.specs.Verdicts.{counts_of}
use Rattle.check_report.specs.Words.{acceptance_text, accepted_counts_text, counts_text, verdict_text, whole_text}
use Rattle.check_report.specs.Junit.{junit_text}
use Rattle.check_report.specs.Tap.{plan_line, point_line, tap_text, version_line}
use Rattle.check_report.specs.Xml.{stays_in_xml, xml_text}

-- a number of milliseconds fits
abbrev pub IsTook : Option Took → Type 0
IsTook None = Unit {0}
IsTook (Some took) = took.millis < 2 ^ 64

-- a point of a field: its number fits, its session has a name, and the milliseconds of what it took fit
pub record IsPoint (p : Point) : Type 0 where
  pub id : p.id < 2 ^ 32
  pub took : IsTook p.took
  pub session : is_name p.session ≡ true

abbrev pub ArePoints : List Point → Type 0
ArePoints [] = Unit {0}
ArePoints (p ∷ points) = IsPoint p × ArePoints points

-- a line that a parser of TAP takes for neither a comment nor a part of a block of YAML: it begins with no '#' and no space
abbrev pub is_tap_line : List ℕ → Bool
is_tap_line line = not (slice_index line 0 == 35 || slice_index line 0 == 32)

-- the lines of points, of which the first has this number
abbrev pub point_lines : ℕ → List Point → List (List ℕ)
point_lines number [] = []
point_lines number (p ∷ points) = point_line number p.id p.session p.verdict ∷ point_lines (number + 1) points

-- what a report tells in lines of JSON: first, of each case in their order, then the counts, and last that it came to its end
abbrev pub report_tellings : List Case → List Telling
report_tellings cases = reported.hello ∷ (map telling_of cases ++ counts_reported (counts_of (judgements_of cases)) ∷ reported.end ∷ [])

-- A report as TAP and one in JUnit's XML are those of its points, one as JSON is the lines of its tellings, and those in words have the texts of their cases and then the counts.
abbrev pub ReportsAreTheirTexts : Type 0
ReportsAreTheirTexts = (cases : List Case)
    → (report_text format.Tap cases ≡ tap_text (map point_of cases))
    × (report_text format.Junit cases ≡ junit_text (map point_of cases))
    × (report_text format.Json cases ≡ tellings_text (report_tellings cases))
    × (report_text format.Text cases ≡ flat_map (λ c. verdict_text c.field c.came c.lost c.verdict) cases ++ counts_text (counts_of (judgements_of cases)))
    × (report_text format.Whole cases ≡ flat_map (λ c. whole_text c.field c.came c.lost c.verdict) cases ++ counts_text (counts_of (judgements_of cases)))
    × (report_text format.Accepting cases ≡ flat_map (λ c. acceptance_text c.field c.came c.lost c.verdict) cases ++ accepted_counts_text (counts_of (judgements_of cases)))

-- Without its comments and blocks of YAML a report as TAP has these lines, one by one: the version, a point for each field, numbered from 1, and the
-- plan. So what an interpreter wrote is in comments alone.
abbrev pub TapIsItsPoints : Type 0
TapIsItsPoints = (points : List Point) → ArePoints points → length points < 2 ^ 32
    → filter is_tap_line (lines_of (tap_text points)) ≡ version_line ∷ (point_lines 1 points ++ plan_line (length points) ∷ [])

-- Each telling of a report as JSON is one line, whatever an interpreter wrote, where the numbers of its fields fit and its outputs are
-- blocks. That it reads back as what it tells is `ChecksReadBack` of `sheet_json`.
abbrev pub JsonIsItsLines : Type 0
JsonIsItsLines = (cases : List Case) → AllByRecursion (λ c. IsSoundTelling (telling_of c)) cases → length cases < 2 ^ 32
    → AllByRecursion (λ t. IsOneLine (telling_line t)) (report_tellings cases)

-- '<', '>', '"', and each control character but a tab and a line feed
abbrev pub is_xml_mark : ℕ → Bool
is_xml_mark byte = byte == 60 || byte == 62 || byte == 34 || not (stays_in_xml byte)

-- what stands after the '&' of a reference
abbrev pub xml_reference_names : List (List ℕ)
xml_reference_names = codes "amp;" ∷ codes "lt;" ∷ codes "gt;" ∷ codes "quot;" ∷ []

-- whether one of these stands here
abbrev pub has_xml_reference : List ℕ → Bool
has_xml_reference bytes = list_any (λ name. starts_with nat_eq bytes name) xml_reference_names

-- whether each '&' begins a reference
abbrev pub has_xml_references_alone : List ℕ → Bool
has_xml_references_alone [] = true
has_xml_references_alone (byte ∷ rest) = (not (byte == 38) || has_xml_reference rest) && has_xml_references_alone rest

-- no text in XML has a mark, and each '&' in it begins a reference
abbrev pub XmlHasNoMarks : Type 0
XmlHasNoMarks = (bytes : List ℕ) → (list_all (λ byte. not (is_xml_mark byte)) (xml_text bytes) ≡ true) × (has_xml_references_alone (xml_text bytes) ≡ true)

-- whether a tag is open after a byte
abbrev pub tag_after : Bool → ℕ → Bool
tag_after inside byte = cond inside (not (byte == 62)) (byte == 60)

-- the tags of a text, from each '<' to the '>' after it, by whether one is open
abbrev pub tags : Bool → List ℕ → List ℕ
tags inside [] = []
tags inside (byte ∷ rest) = cond (inside || byte == 60) (byte ∷ tags (tag_after inside byte) rest) (tags (tag_after inside byte) rest)

-- a point of which nothing is reported
abbrev pub withheld : Point → Point
withheld p = record p { reported = [] }

-- The tags of a report in JUnit's XML are those of one in which nothing is reported: what an interpreter wrote is no element, no
-- attribute, and no part of one.
abbrev pub TextsAreNoTags : Type 0
TextsAreNoTags = (points : List Point) → tags false (junit_text points) ≡ tags false (junit_text (map withheld points))

-- two lists of lines are the same before what a hunk of them marks, and after it
abbrev pub AgreeAround : Hunk → List (List ℕ) → List (List ℕ) → Type 0
AgreeAround h old new =
    (take h.front old ++ (some_lines h.front (lines_removed h) old ++ drop (tail_start h) old) ≡ old)
    × (take h.front old ++ (some_lines h.front (lines_added h) new ++ drop (tail_start h) old) ≡ new)

-- A hunk turns the old output into the new one: with its lines with `+ ` in the place of those with `- `, and all others of the old one, it is
-- the new one. So what is left out of a report is the same in both.
abbrev pub HunksTurnOneIntoTheOther : Type 0
HunksTurnOneIntoTheOther = (old new : List (List ℕ)) → AgreeAround (hunk_of old new) old new

-- whether a picture stands among these items, at any depth
abbrev pub have_picture : Items → Bool
have_picture end = false
have_picture (text t rest) = have_picture rest
have_picture (block channel name inside rest) = is_some (picture_named channel name inside) || have_picture inside || have_picture rest

-- whether an output is a picture, or has one in it
abbrev pub has_picture : Tree → Bool
has_picture b = is_some (picture_of b) || have_picture b.items

-- A report shows an output in which no picture stands as a worksheet does.
abbrev pub OthersAreAsShown : Type 0
OthersAreAsShown = (output : Tree) → has_picture output ≡ false → brief_text output ≡ block_text output

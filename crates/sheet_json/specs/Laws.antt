-- Laws of the definitions.
use Rattle.std.specs.Prelude.{◌≡◌, ℕ, List, Option, Some, IfSome, map}
use Rattle.std.specs.List.{AllByRecursion, flat_map}
use Rattle.serde_json.specs.Data.{Data}
use Rattle.serde_json.specs.Written.{compact_text}
use Rattle.base64.specs.GeneralPurpose.{IsBytes}
use Rattle.block_tree.specs.Tree.{Tree}
use Rattle.sheet_json.specs.Bytes.{bytes_data}
use Rattle.sheet_json.specs.Blocks.{tree_data}
use Rattle.sheet_json.specs.Lines.{HasCounts, json_line}
use Rattle.sheet_json.specs.Objects.{field_data, session_data, telling_data}
use Rattle.sheet_json.specs.Plain.{IsPlain, IsSoundTelling}
use Rattle.sheet_json.specs.Reading.{bytes_in, tree_in, HasBytes}
use Rattle.sheet_json.specs.Tellings.{CheckReported, EventReported, FieldShown, Reply, SessionShown, Telling}
use Rattle.sheet_json.specs.Tellings as reported
use Rattle.sheet_json.specs.declared.checks.Took.{Took}
use Rattle.sheet_json.specs.Reported.{checked_in, compared_in, counts_in, exported_in, field_read, no_field_in, no_program_in, over_in, session_in, reported_in, CheckHasBytes, EventHasBytes, StateHasBytes}

-- Bytes read back, whatever they are.
abbrev pub BytesReadBack : Type 0
BytesReadBack = (bytes : List ℕ) → IsBytes bytes → bytes_in (bytes_data bytes) ≡ Some bytes

-- A block reads back, with all its tags and texts.
abbrev pub BlocksReadBack : Type 0
BlocksReadBack = (b : Tree) → HasBytes b → tree_in (tree_data b) ≡ Some b

-- A reply reads back, with its line.
abbrev pub RepliesReadBack : Type 0
RepliesReadBack = (line : ℕ) (r : Reply) → reported_in (telling_data (reported.reply line r)) ≡ Some (reported.reply line r)

-- What comes of an interpreter reads back.
abbrev pub EventsReadBack : Type 0
EventsReadBack = (session : List ℕ) (life : ℕ) (e : EventReported) → IsBytes session → EventHasBytes e → reported_in (telling_data (reported.event session life e)) ≡ Some (reported.event session life e)

-- So do fields and sessions.
abbrev pub FieldsReadBack : Type 0
FieldsReadBack = (f : FieldShown) → IsBytes f.session → StateHasBytes f.state → field_read (field_data f) ≡ Some f

abbrev pub SessionsReadBack : Type 0
SessionsReadBack = (s : SessionShown) → IsBytes s.name → AllByRecursion IsBytes s.words → session_in (session_data s) ≡ Some s

-- The counts of an evaluation read back, and that the time of a field was over.
abbrev pub CountsReadBack : Type 0
CountsReadBack = ((a u e : ℕ) → counts_in (telling_data (reported.counted a u e)) ≡ Some (reported.counted a u e))
    × ((a u e over passed : ℕ) → counts_in (telling_data (reported.counted_in_time a u e over passed)) ≡ Some (reported.counted_in_time a u e over passed))
    × ((id : ℕ) (outcome : List ℕ) → over_in (telling_data (reported.over id outcome)) ≡ Some (reported.over id outcome))

-- What a field that was evaluated again came to reads back, and so do the counts of a check, the number that no field has, and the session whose
-- program isn't there.
abbrev pub ChecksReadBack : Type 0
ChecksReadBack = ((id : ℕ) (session : List ℕ) (took : Option Took) (c : CheckReported) → IsBytes session → CheckHasBytes c → checked_in (telling_data (reported.checked id session took c)) ≡ Some (reported.checked id session took c))
    × ((same differ unanswered left_out errors new : ℕ) → compared_in (telling_data (reported.compared same differ unanswered left_out errors new)) ≡ Some (reported.compared same differ unanswered left_out errors new))
    × ((id : ℕ) → no_field_in (telling_data (reported.no_field id)) ≡ Some (reported.no_field id))
    × ((session : List ℕ) → IsBytes session → no_program_in (telling_data (reported.no_program session)) ≡ Some (reported.no_program session))

-- A worksheet in a format reads back, and that it has no text there.
abbrev pub ExportsReadBack : Type 0
ExportsReadBack = (line : ℕ) (format : List ℕ) (text : Option (List ℕ)) → IfSome text IsBytes → exported_in (telling_data (reported.exported line format text)) ≡ Some (reported.exported line format text)

-- What a program tells has no float, no number of more than 64 bits, and nests 67 deep at most. So of each telling `line_bytes` gives
-- the line of the definition, which is one line and reads back.
abbrev pub TellingsArePlain : Type 0
TellingsArePlain = (t : Telling) → IsSoundTelling t → IsPlain 67 (telling_data t)

-- Lines one after another are cut in one way: two lists of values with one text are written by the same texts.
abbrev pub LinesApart : Type 0
LinesApart = (ds es : List Data) → AllByRecursion HasCounts ds → AllByRecursion HasCounts es → flat_map json_line ds ≡ flat_map json_line es → map compact_text ds ≡ map compact_text es

-- What is printed, as JSON: the members of each object in the order of their names. (docs/use/JSON.md.)
use Rattle.std.specs.Prelude.{ℕ, true, false, List, Option, Some, None, codes, map}
use Rattle.block_tree.specs.Tree.{Tree}
use Rattle.block_tree.specs.declared.reason.Reason.{Reason}
use Rattle.worksheet.specs.declared.field.Answer.{Answer}
use Rattle.worksheet.specs.Refusals.{refusal_number, refusal_name}
use Rattle.scheme_text.specs.declared.answer.Completions.{Completions}
use Rattle.plugin_core.specs.declared.item.Item.{Item}
use Rattle.plugin_core.specs.declared.item.Item.TheVariants as item
use Rattle.sheet_text.specs.Blocks.{block_text}
use Rattle.sheet_text.specs.Replies.{reason_name}
use Rattle.serde_json.specs.Data.{Data, Members, null, boolean, number, unsigned, string, array, object, member, no_members}
use Rattle.serde_json.specs.View.{items_of}
use Rattle.sheet_json.specs.Bytes.{bytes_data}
use Rattle.sheet_json.specs.Blocks.{tree_data}
use Rattle.sheet_json.specs.Tellings.{CheckReported, Telling, Reply, EventReported, FieldShown, SessionShown, State}
use Rattle.sheet_json.specs.Tellings as reported
use Rattle.sheet_json.specs.declared.checks.Took.{Took}

abbrev pub count : ℕ → Data
count n = number (unsigned n)

-- the member `type`, and none after it
abbrev pub typed : List ℕ → Members
typed name = member (codes "type") (string name) no_members

-- an output: its blocks, and as a worksheet shows it
abbrev pub shown_data : Tree → Data
shown_data output = bytes_data (block_text output)

-- an item that was lost: a line, or a request of completions
abbrev pub lost_data : Item → Data
lost_data (item.Line id line) = object (member (codes "id") (count id) (member (codes "text") (bytes_data line) no_members))
lost_data (item.Complete id line cursor) = object (member (codes "cursor") (count cursor) (member (codes "id") (count id) (member (codes "text") (string line) no_members)))

abbrev pub losts_data : List Item → Data
losts_data lost = array (items_of (map lost_data lost))

-- Replies to lines.
abbrev pub reply_data : ℕ → Reply → Data
reply_data line reported.done = object (member (codes "line") (count line) (typed (codes "done")))
reply_data line (reported.made id) = object (member (codes "id") (count id) (member (codes "line") (count line) (typed (codes "made"))))
reply_data line (reported.asked life) = object (member (codes "life") (count life) (member (codes "line") (count line) (typed (codes "asked"))))
reply_data line (reported.refused why) = object (member (codes "line") (count line) (member (codes "name") (string (refusal_name why)) (member (codes "number") (count (refusal_number why)) (typed (codes "refused")))))
reply_data line reported.bad = object (member (codes "line") (count line) (typed (codes "bad")))
reply_data line reported.nothing = object (member (codes "line") (count line) (typed (codes "nothing")))
reply_data line (reported.waited true) = object (member (codes "line") (count line) (member (codes "over") (string (codes "time")) (typed (codes "waited"))))
reply_data line (reported.waited false) = object (member (codes "line") (count line) (member (codes "over") (string (codes "idle")) (typed (codes "waited"))))
reply_data line (reported.interrupted outcome) = object (member (codes "line") (count line) (member (codes "outcome") (string outcome) (typed (codes "interrupted"))))
reply_data line (reported.undone first) = object (member (codes "from") (count first) (member (codes "line") (count line) (typed (codes "undone"))))

abbrev pub stopped_data : ℕ → List ℕ → ℕ → List Item → Data
stopped_data line session life lost =
    object (member (codes "life") (count life) (member (codes "line") (count line) (member (codes "lost") (losts_data lost) (member (codes "session") (bytes_data session) (typed (codes "stopped"))))))

-- What comes of interpreters.

-- texts in a row
abbrev pub texts_data : List (List ℕ) → Data
texts_data texts = array (items_of (map bytes_data texts))

-- the completions, or that the answer tells none
abbrev pub completions_data : Option Completions → Data
completions_data None = null
completions_data (Some reported) = object (member (codes "rest") (texts_data reported.rest) (member (codes "root") (bytes_data reported.root) no_members))

-- a prompt; null where it isn't known
abbrev pub prompt_data : Option (List ℕ) → Data
prompt_data None = null
prompt_data (Some prompt) = bytes_data prompt

abbrev pub event_data : List ℕ → ℕ → EventReported → Data
event_data session life (reported.banner output next) =
    object (member (codes "life") (count life) (member (codes "next") (prompt_data next) (member (codes "output") (tree_data output) (member (codes "session") (bytes_data session)
    (member (codes "shown") (shown_data output) (typed (codes "banner")))))))
event_data session life (reported.answer id prompt output next) =
    object (member (codes "id") (count id) (member (codes "life") (count life) (member (codes "next") (prompt_data next) (member (codes "output") (tree_data output) (member (codes "prompt") (bytes_data prompt)
    (member (codes "session") (bytes_data session) (member (codes "shown") (shown_data output) (typed (codes "answered")))))))))
event_data session life (reported.completed id completions) =
    object (member (codes "id") (count id) (member (codes "life") (count life) (member (codes "session") (bytes_data session) (member (codes "told") (completions_data completions) (typed (codes "completed"))))))
event_data session life (reported.input line) =
    object (member (codes "life") (count life) (member (codes "session") (bytes_data session) (member (codes "text") (bytes_data line) (typed (codes "default")))))
event_data session life (reported.ended why lost) =
    object (member (codes "life") (count life) (member (codes "lost") (losts_data lost) (member (codes "reason") (string (reason_name why)) (member (codes "session") (bytes_data session) (typed (codes "ended"))))))
event_data session life (reported.warned outcome) =
    object (member (codes "life") (count life) (member (codes "outcome") (string outcome) (member (codes "session") (bytes_data session) (typed (codes "interrupted")))))
event_data session life (reported.partial bytes) =
    object (member (codes "bytes") (bytes_data bytes) (member (codes "life") (count life) (member (codes "session") (bytes_data session) (typed (codes "partial")))))

-- Worksheets.

-- by its number, session and input, and by how it stands
abbrev pub field_with : ℕ → List ℕ → List ℕ → State → Data
field_with id session input (reported.answered prompt output) =
    object (member (codes "id") (count id) (member (codes "input") (string input) (member (codes "output") (tree_data output) (member (codes "prompt") (bytes_data prompt)
    (member (codes "session") (bytes_data session) (member (codes "shown") (shown_data output) (member (codes "state") (string (codes "answered")) no_members)))))))
field_with id session input (reported.lost why) =
    object (member (codes "id") (count id) (member (codes "input") (string input) (member (codes "reason") (string (reason_name why))
    (member (codes "session") (bytes_data session) (member (codes "state") (string (codes "lost")) no_members)))))
field_with id session input reported.waiting =
    object (member (codes "id") (count id) (member (codes "input") (string input) (member (codes "session") (bytes_data session) (member (codes "state") (string (codes "waiting")) no_members))))
field_with id session input reported.empty =
    object (member (codes "id") (count id) (member (codes "input") (string input) (member (codes "session") (bytes_data session) (member (codes "state") (string (codes "empty")) no_members))))

abbrev pub field_data : FieldShown → Data
field_data field = field_with field.id field.session field.input field.state

abbrev pub life_data : Option ℕ → Data
life_data None = null
life_data (Some life) = count life

abbrev pub session_data : SessionShown → Data
session_data s =
    object (member (codes "life") (life_data s.life) (member (codes "name") (bytes_data s.name) (member (codes "tab") (boolean s.tab) (member (codes "waiting") (count s.waiting)
    (member (codes "words") (texts_data s.words) no_members)))))

abbrev pub ids_data : List ℕ → Data
ids_data ids = array (items_of (map count ids))

abbrev pub sessions_data : List SessionShown → Data
sessions_data sessions = array (items_of (map session_data sessions))

-- Checks.

-- an answer, with its output as a worksheet shows it; null where there is none
abbrev pub answer_data : Option Answer → Data
answer_data None = null
answer_data (Some answer) = object (member (codes "output") (tree_data answer.output) (member (codes "prompt") (bytes_data answer.prompt) (member (codes "shown") (shown_data answer.output) no_members)))

abbrev pub why_data : Option Reason → Data
why_data None = null
why_data (Some why) = string (reason_name why)

-- what an evaluation took; null where it isn't known
abbrev pub took_data : Option Took → Data
took_data None = null
took_data (Some took) = object (member (codes "millis") (count took.millis) (member (codes "started") (boolean took.started) no_members))

-- the members `took`, `type` and `verdict`, and none after them
abbrev pub judged : Option Took → List ℕ → Members
judged took verdict = member (codes "took") (took_data took) (member (codes "type") (string (codes "checked")) (member (codes "verdict") (string verdict) no_members))

abbrev pub checked_data : ℕ → List ℕ → Option Took → CheckReported → Data
checked_data id session took reported.same = object (member (codes "id") (count id) (member (codes "session") (bytes_data session) (judged took (codes "same"))))
checked_data id session took reported.left_out = object (member (codes "id") (count id) (member (codes "session") (bytes_data session) (judged took (codes "left_out"))))
checked_data id session took (reported.differs input shows came) =
    object (member (codes "came") (answer_data came) (member (codes "id") (count id) (member (codes "input") (string input) (member (codes "session") (bytes_data session)
    (member (codes "shows") (answer_data shows) (judged took (codes "differs")))))))
checked_data id session took (reported.unanswered input shows why) =
    object (member (codes "id") (count id) (member (codes "input") (string input) (member (codes "reason") (why_data why) (member (codes "session") (bytes_data session)
    (member (codes "shows") (answer_data shows) (judged took (codes "unanswered")))))))
checked_data id session took (reported.new input came) =
    object (member (codes "came") (answer_data came) (member (codes "id") (count id) (member (codes "input") (string input) (member (codes "session") (bytes_data session)
    (judged took (codes "new"))))))

-- Worksheets in a format.

-- a text; null where there is none
abbrev pub text_or_null : Option (List ℕ) → Data
text_or_null None = null
text_or_null (Some text) = bytes_data text

abbrev pub exported_data : ℕ → List ℕ → Option (List ℕ) → Data
exported_data line format text =
    object (member (codes "format") (string format) (member (codes "line") (count line) (member (codes "text") (text_or_null text) (typed (codes "exported")))))

-- All that is printed.
abbrev pub telling_data : Telling → Data
telling_data reported.hello = object (member (codes "format") (count 1) (member (codes "program") (string (codes "tmhost")) (member (codes "protocol") (count 2) (member (codes "type") (string (codes "hello")) (member (codes "version") (string (codes "0.1.0")) no_members)))))
telling_data (reported.reply line r) = reply_data line r
telling_data (reported.stopped line session life lost) = stopped_data line session life lost
telling_data (reported.event session life e) = event_data session life e
telling_data (reported.field line f) = object (member (codes "field") (field_data f) (member (codes "line") (count line) (typed (codes "field"))))
telling_data (reported.part line f) = object (member (codes "field") (field_data f) (member (codes "line") (count line) (member (codes "more") (boolean true) (typed (codes "field")))))
telling_data (reported.shown f) = object (member (codes "field") (field_data f) (typed (codes "field")))
telling_data (reported.sheet line ids next sessions) = object (member (codes "fields") (ids_data ids) (member (codes "line") (count line) (member (codes "next") (count next) (member (codes "sessions") (sessions_data sessions) (typed (codes "sheet"))))))
telling_data (reported.exported line format text) = exported_data line format text
telling_data (reported.whole ids next sessions) = object (member (codes "fields") (ids_data ids) (member (codes "next") (count next) (member (codes "sessions") (sessions_data sessions) (typed (codes "sheet")))))
telling_data (reported.fault n name None) = object (member (codes "name") (string name) (member (codes "number") (count n) (typed (codes "fault"))))
telling_data (reported.fault n name (Some offset)) = object (member (codes "name") (string name) (member (codes "number") (count n) (member (codes "offset") (count offset) (typed (codes "fault")))))
telling_data (reported.over id outcome) = object (member (codes "id") (count id) (member (codes "outcome") (string outcome) (typed (codes "over"))))
telling_data (reported.counted answered unanswered errors) =
    object (member (codes "answered") (count answered) (member (codes "errors") (count errors) (member (codes "type") (string (codes "counted")) (member (codes "unanswered") (count unanswered) no_members))))
telling_data (reported.counted_in_time answered unanswered errors over passed) =
    object (member (codes "answered") (count answered) (member (codes "errors") (count errors) (member (codes "over") (count over) (member (codes "passed") (count passed)
    (member (codes "type") (string (codes "counted")) (member (codes "unanswered") (count unanswered) no_members))))))
telling_data (reported.checked id session took c) = checked_data id session took c
telling_data (reported.compared same differ unanswered left_out errors new) =
    object (member (codes "differ") (count differ) (member (codes "errors") (count errors) (member (codes "left_out") (count left_out) (member (codes "new") (count new) (member (codes "same") (count same)
    (member (codes "type") (string (codes "compared")) (member (codes "unanswered") (count unanswered) no_members)))))))
telling_data (reported.no_field id) = object (member (codes "id") (count id) (member (codes "name") (string (codes "NoField")) (member (codes "number") (count 37) (typed (codes "fault")))))
telling_data (reported.no_program session) = object (member (codes "name") (string (codes "NoProgram")) (member (codes "number") (count 44) (member (codes "session") (bytes_data session) (typed (codes "fault")))))
telling_data reported.end = object (typed (codes "end"))

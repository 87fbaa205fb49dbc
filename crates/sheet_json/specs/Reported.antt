-- What an object reads as: the way back of `Objects`. Members are looked up by their names, as a client does; members that it
-- doesn't know are passed over.
use Rattle.std.specs.Prelude.{ℕ, ◌-◌, Bool, true, false, List, [], ◌∷◌, Option, Some, None, codes, cond, option_map, option_and_then, slice_get}
use Rattle.std.specs.List.{AllByRecursion}
use Rattle.std.specs.Str.{bytes_eq}
use Rattle.base64.specs.GeneralPurpose.{IsBytes}
use Rattle.block_tree.specs.declared.reason.Reason.{Reason}
use Rattle.block_tree.specs.declared.reason.Reason.TheVariants as reason
use Rattle.worksheet.specs.declared.field.Answer.{Answer}
use Rattle.worksheet.specs.declared.refusal.Refusal.{Refusal}
use Rattle.worksheet.specs.declared.refusal.Refusal.TheVariants as refusal
use Rattle.scheme_text.specs.declared.answer.Completions.{Completions}
use Rattle.plugin_core.specs.declared.item.Item.{Item}
use Rattle.plugin_core.specs.declared.item.Item.TheVariants as lost
use Rattle.serde_json.specs.Data.{Data, Items, null, number, unsigned, array, item, no_items}
use Rattle.serde_json.specs.Find.{get, as_bool, as_str}
use Rattle.sheet_json.specs.Reading.{bytes_in, tree_in, HasBytes}
use Rattle.sheet_json.specs.Tellings.{CheckReported, Telling, Reply, EventReported, FieldShown, SessionShown, State}
use Rattle.sheet_json.specs.Tellings as reported
use Rattle.sheet_json.specs.declared.checks.Took.{Took}

abbrev pub count_in : Data → Option ℕ
count_in (number (unsigned n)) = Some n
count_in _ = None

abbrev pub member_in : {A : Type 0} → (Data → Option A) → List ℕ → Data → Option A
member_in read name d = option_and_then read (get name d)

-- the values of both, or of all
abbrev pub both : {A B C : Type 0} → (A → B → C) → Option A → Option B → Option C
both f (Some a) (Some b) = Some (f a b)
both f _ _ = None

-- a function, and what it is of
abbrev pub of : {A B : Type 0} → Option (A → B) → Option A → Option B
of (Some f) (Some a) = Some (f a)
of _ _ = None

abbrev pub each_in : {A : Type 0} → (Data → Option A) → Items → Option (List A)
each_in read no_items = Some []
each_in read (item d ds) = of (option_map (λ x xs. x ∷ xs) (read d)) (each_in read ds)

abbrev pub list_in : {A : Type 0} → (Data → Option A) → Data → Option (List A)
list_in read (array ds) = each_in read ds
list_in read _ = None

-- none, or some
abbrev pub option_in : {A : Type 0} → (Data → Option A) → Data → Option (Option A)
option_in read null = Some None
option_in read d = option_map (λ x. Some x) (read d)

abbrev pub numbered_refusals : List Refusal
numbered_refusals = refusal.NoSession ∷ refusal.NoField ∷ refusal.InFlight ∷ refusal.SessionExists ∷ refusal.BadName ∷ refusal.BadWords ∷ refusal.BadInput ∷ refusal.SamePlace
    ∷ refusal.TooManySessions ∷ refusal.TooManyFields ∷ refusal.IdsSpent ∷ refusal.NoTab ∷ refusal.BadCursor ∷ refusal.QueueFull ∷ refusal.LivesSpent ∷ refusal.JournalFull ∷ refusal.OutOfMemory ∷ []

abbrev pub refusal_in : Data → Option Refusal
refusal_in d = option_and_then (λ n. slice_get numbered_refusals (n - 1)) (count_in d)

abbrev pub reason_named : List ℕ → Option Reason
reason_named name =
    cond (bytes_eq name (codes "StartRefused")) (Some reason.StartRefused) (cond (bytes_eq name (codes "Ended")) (Some reason.Ended) (cond (bytes_eq name (codes "ReadFault")) (Some reason.ReadFault)
    (cond (bytes_eq name (codes "SendFault")) (Some reason.SendFault) (cond (bytes_eq name (codes "Stalled")) (Some reason.Stalled) (cond (bytes_eq name (codes "BadTag")) (Some reason.BadTag)
    (cond (bytes_eq name (codes "TooDeep")) (Some reason.TooDeep) (cond (bytes_eq name (codes "TooLong")) (Some reason.TooLong) (cond (bytes_eq name (codes "Stopped")) (Some reason.Stopped) None))))))))

abbrev pub reason_in : Data → Option Reason
reason_in d = option_and_then reason_named (as_str d)

-- an item that was lost, by its cursor if it has one
abbrev pub lost_with : Option Data → Data → Option Item
lost_with None d = of (option_map (λ id line. lost.Line id line) (member_in count_in (codes "id") d)) (member_in bytes_in (codes "text") d)
lost_with (Some cursor) d = of (of (option_map (λ id line c. lost.Complete id line c) (member_in count_in (codes "id") d)) (member_in as_str (codes "text") d)) (count_in cursor)

abbrev pub lost_in : Data → Option Item
lost_in d = lost_with (get (codes "cursor") d) d

abbrev pub completions_in : Data → Option Completions
completions_in d = of (option_map (λ root rest. record { root = root; rest = rest }) (member_in bytes_in (codes "root") d)) (member_in (list_in bytes_in) (codes "rest") d)

-- how a field stands
abbrev pub state_named : List ℕ → Data → Option State
state_named name d =
    cond (bytes_eq name (codes "answered")) (of (option_map (λ prompt output. reported.answered prompt output) (member_in bytes_in (codes "prompt") d)) (member_in tree_in (codes "output") d))
    (cond (bytes_eq name (codes "lost")) (option_map (λ why. reported.lost why) (member_in reason_in (codes "reason") d))
    (cond (bytes_eq name (codes "waiting")) (Some reported.waiting) (cond (bytes_eq name (codes "empty")) (Some reported.empty) None)))

abbrev pub state_in : Data → Option State
state_in d = option_and_then (λ name. state_named name d) (member_in as_str (codes "state") d)

abbrev pub field_read : Data → Option FieldShown
field_read d = of (of (of (option_map (λ id session input state. record { id = id; session = session; input = input; state = state }) (member_in count_in (codes "id") d)) (member_in bytes_in (codes "session") d)) (member_in as_str (codes "input") d)) (state_in d)

abbrev pub session_in : Data → Option SessionShown
session_in d = of (of (of (of (option_map (λ name tab words life waiting. record { name = name; tab = tab; words = words; life = life; waiting = waiting }) (member_in bytes_in (codes "name") d)) (member_in as_bool (codes "tab") d))
    (member_in (list_in bytes_in) (codes "words") d)) (member_in (option_in count_in) (codes "life") d)) (member_in count_in (codes "waiting") d)

abbrev pub over_named : List ℕ → Option Bool
over_named name = cond (bytes_eq name (codes "time")) (Some true) (cond (bytes_eq name (codes "idle")) (Some false) None)

-- of a line
abbrev pub reply_named : List ℕ → Data → Option Reply
reply_named name d =
    cond (bytes_eq name (codes "done")) (Some reported.done) (cond (bytes_eq name (codes "made")) (option_map (λ id. reported.made id) (member_in count_in (codes "id") d))
    (cond (bytes_eq name (codes "asked")) (option_map (λ life. reported.asked life) (member_in count_in (codes "life") d)) (cond (bytes_eq name (codes "refused")) (option_map (λ why. reported.refused why) (member_in refusal_in (codes "number") d))
    (cond (bytes_eq name (codes "bad")) (Some reported.bad) (cond (bytes_eq name (codes "nothing")) (Some reported.nothing)
    (cond (bytes_eq name (codes "waited")) (option_map (λ over. reported.waited over) (option_and_then over_named (member_in as_str (codes "over") d)))
    (cond (bytes_eq name (codes "interrupted")) (option_map (λ outcome. reported.interrupted outcome) (member_in as_str (codes "outcome") d))
    (cond (bytes_eq name (codes "undone")) (option_map (λ first. reported.undone first) (member_in count_in (codes "from") d)) None))))))))

-- a prompt, or that it isn't known
abbrev pub prompt_in : Data → Option (Option (List ℕ))
prompt_in d = option_in bytes_in d

-- of an interpreter
abbrev pub event_named : List ℕ → Data → Option EventReported
event_named name d =
    cond (bytes_eq name (codes "banner")) (of (option_map (λ output next. reported.banner output next) (member_in tree_in (codes "output") d)) (member_in prompt_in (codes "next") d))
    (cond (bytes_eq name (codes "answered")) (of (of (of (option_map (λ id prompt output next. reported.answer id prompt output next) (member_in count_in (codes "id") d)) (member_in bytes_in (codes "prompt") d)) (member_in tree_in (codes "output") d)) (member_in prompt_in (codes "next") d))
    (cond (bytes_eq name (codes "completed")) (of (option_map (λ id reported_ones. reported.completed id reported_ones) (member_in count_in (codes "id") d)) (member_in (option_in completions_in) (codes "told") d))
    (cond (bytes_eq name (codes "default")) (option_map (λ line. reported.input line) (member_in bytes_in (codes "text") d))
    (cond (bytes_eq name (codes "ended")) (of (option_map (λ why items. reported.ended why items) (member_in reason_in (codes "reason") d)) (member_in (list_in lost_in) (codes "lost") d))
    (cond (bytes_eq name (codes "interrupted")) (option_map (λ outcome. reported.warned outcome) (member_in as_str (codes "outcome") d))
    (cond (bytes_eq name (codes "partial")) (option_map (λ bytes. reported.partial bytes) (member_in bytes_in (codes "bytes") d)) None))))))

-- a reply has a line, and what comes of an interpreter has none
abbrev pub with_line : Option ℕ → List ℕ → Data → Option Telling
with_line (Some line) name d = option_map (λ r. reported.reply line r) (reply_named name d)
with_line None name d = of (of (option_map (λ session life e. reported.event session life e) (member_in bytes_in (codes "session") d)) (member_in count_in (codes "life") d)) (event_named name d)

abbrev pub reported_named : List ℕ → Data → Option Telling
reported_named name d = with_line (member_in count_in (codes "line") d) name d

-- a reply, or what comes of an interpreter
abbrev pub reported_in : Data → Option Telling
reported_in d = option_and_then (λ name. reported_named name d) (member_in as_str (codes "type") d)

-- the counts of an evaluation, by the member `over` if it has one
abbrev pub counts_with : Option Data → Data → Option Telling
counts_with None d = of (of (option_map (λ answered unanswered errors. reported.counted answered unanswered errors) (member_in count_in (codes "answered") d)) (member_in count_in (codes "unanswered") d)) (member_in count_in (codes "errors") d)
counts_with (Some over) d =
    of (of (of (of (option_map (λ answered unanswered errors o passed. reported.counted_in_time answered unanswered errors o passed) (member_in count_in (codes "answered") d)) (member_in count_in (codes "unanswered") d)) (member_in count_in (codes "errors") d))
    (count_in over)) (member_in count_in (codes "passed") d)

abbrev pub counts_in : Data → Option Telling
counts_in d = counts_with (get (codes "over") d) d

-- that the time of a field is over
abbrev pub over_in : Data → Option Telling
over_in d = of (option_map (λ id outcome. reported.over id outcome) (member_in count_in (codes "id") d)) (member_in as_str (codes "outcome") d)

-- an answer, or that there is none
abbrev pub some_answer_in : Data → Option Answer
some_answer_in d = of (option_map (λ prompt output. record { prompt = prompt; output = output }) (member_in bytes_in (codes "prompt") d)) (member_in tree_in (codes "output") d)

abbrev pub answer_in : Data → Option (Option Answer)
answer_in d = option_in some_answer_in d

-- what a field that was evaluated again came to
abbrev pub check_named : List ℕ → Data → Option CheckReported
check_named name d =
    cond (bytes_eq name (codes "same")) (Some reported.same) (cond (bytes_eq name (codes "left_out")) (Some reported.left_out)
    (cond (bytes_eq name (codes "differs")) (of (of (option_map (λ input shows came. reported.differs input shows came) (member_in as_str (codes "input") d)) (member_in answer_in (codes "shows") d)) (member_in answer_in (codes "came") d))
    (cond (bytes_eq name (codes "unanswered")) (of (of (option_map (λ input shows why. reported.unanswered input shows why) (member_in as_str (codes "input") d)) (member_in answer_in (codes "shows") d)) (member_in (option_in reason_in) (codes "reason") d))
    (cond (bytes_eq name (codes "new")) (of (option_map (λ input came. reported.new input came) (member_in as_str (codes "input") d)) (member_in answer_in (codes "came") d)) None))))

-- what its evaluation took, or that it isn't known
abbrev pub some_took_in : Data → Option Took
some_took_in d = of (option_map (λ millis started. record { millis = millis; started = started }) (member_in count_in (codes "millis") d)) (member_in as_bool (codes "started") d)

abbrev pub took_in : Data → Option (Option Took)
took_in d = option_in some_took_in d

abbrev pub checked_in : Data → Option Telling
checked_in d = of (of (of (option_map (λ id session took c. reported.checked id session took c) (member_in count_in (codes "id") d)) (member_in bytes_in (codes "session") d)) (member_in took_in (codes "took") d))
    (option_and_then (λ name. check_named name d) (member_in as_str (codes "verdict") d))

-- the counts of a check
abbrev pub compared_in : Data → Option Telling
compared_in d =
    of (of (of (of (of (option_map (λ same differ unanswered left_out errors new. reported.compared same differ unanswered left_out errors new) (member_in count_in (codes "same") d)) (member_in count_in (codes "differ") d))
    (member_in count_in (codes "unanswered") d)) (member_in count_in (codes "left_out") d)) (member_in count_in (codes "errors") d)) (member_in count_in (codes "new") d)

-- the number that no field has
abbrev pub no_field_in : Data → Option Telling
no_field_in d = option_map (λ id. reported.no_field id) (member_in count_in (codes "id") d)

-- the session whose program isn't there
abbrev pub no_program_in : Data → Option Telling
no_program_in d = option_map (λ session. reported.no_program session) (member_in bytes_in (codes "session") d)

-- a worksheet in a format, or that it has no text there
abbrev pub exported_in : Data → Option Telling
exported_in d =
    of (of (option_map (λ line format text. reported.exported line format text) (member_in count_in (codes "line") d)) (member_in as_str (codes "format") d))
    (member_in (option_in bytes_in) (codes "text") d)

-- what a program's bytes are

abbrev pub ItemHasBytes : Item → Type 0
ItemHasBytes (lost.Line id line) = IsBytes line
ItemHasBytes (lost.Complete id line cursor) = Unit {0}

abbrev pub CompletionsHaveBytes : Option Completions → Type 0
CompletionsHaveBytes None = Unit {0}
CompletionsHaveBytes (Some reported) = IsBytes reported.root × AllByRecursion IsBytes reported.rest

abbrev pub PromptHasBytes : Option (List ℕ) → Type 0
PromptHasBytes None = Unit {0}
PromptHasBytes (Some prompt) = IsBytes prompt

abbrev pub EventHasBytes : EventReported → Type 0
EventHasBytes (reported.banner output next) = HasBytes output × PromptHasBytes next
EventHasBytes (reported.answer id prompt output next) = IsBytes prompt × HasBytes output × PromptHasBytes next
EventHasBytes (reported.completed id completions) = CompletionsHaveBytes completions
EventHasBytes (reported.input line) = IsBytes line
EventHasBytes (reported.ended why items) = AllByRecursion ItemHasBytes items
EventHasBytes (reported.warned outcome) = Unit {0}
EventHasBytes (reported.partial bytes) = IsBytes bytes

abbrev pub StateHasBytes : State → Type 0
StateHasBytes (reported.answered prompt output) = IsBytes prompt × HasBytes output
StateHasBytes (reported.lost why) = Unit {0}
StateHasBytes reported.waiting = Unit {0}
StateHasBytes reported.empty = Unit {0}

abbrev pub AnswerHasBytes : Option Answer → Type 0
AnswerHasBytes None = Unit {0}
AnswerHasBytes (Some answer) = IsBytes answer.prompt × HasBytes answer.output

abbrev pub CheckHasBytes : CheckReported → Type 0
CheckHasBytes reported.same = Unit {0}
CheckHasBytes reported.left_out = Unit {0}
CheckHasBytes (reported.differs input shows came) = AnswerHasBytes shows × AnswerHasBytes came
CheckHasBytes (reported.unanswered input shows why) = AnswerHasBytes shows
CheckHasBytes (reported.new input came) = AnswerHasBytes came

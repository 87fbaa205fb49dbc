-- Values without floats, whose numbers have 64 bits, and which nest so deep at most: their text is defined, is one line, and reads back.
use Rattle.std.specs.Prelude.{◌≡◌, ℕ, ◌<◌, ◌≤◌, ◌^◌, true, false, Option, Some, None}
use Rattle.block_tree.specs.Shape.{is_block}
use Rattle.worksheet.specs.declared.field.Answer.{Answer}
use Rattle.plugin_core.specs.declared.item.Item.{Item}
use Rattle.plugin_core.specs.declared.item.Item.TheVariants as item
use Rattle.std.specs.List.{AllByRecursion}
use Rattle.serde_json.specs.Data.{Data, Items, Members, depth, items_depth, members_depth}
use Rattle.serde_json.specs.Written.{has_float, items_have_float, members_have_float}
use Rattle.sheet_json.specs.Lines.{HasCounts, ItemsHaveCounts, MembersHaveCounts}
use Rattle.sheet_json.specs.Tellings.{CheckReported, Telling, Reply, EventReported, FieldShown, SessionShown, State}
use Rattle.sheet_json.specs.Tellings as reported
use Rattle.sheet_json.specs.declared.checks.Took.{Took}

pub record IsPlain (n : ℕ) (d : Data) : Type 0 where
  pub floats : has_float d ≡ false
  pub nests : depth d ≤ n
  pub counts : HasCounts d

pub record ArePlain (n : ℕ) (ds : Items) : Type 0 where
  pub floats : items_have_float ds ≡ false
  pub nest : items_depth ds ≤ n
  pub counts : ItemsHaveCounts ds

pub record HasPlain (n : ℕ) (ms : Members) : Type 0 where
  pub floats : members_have_float ms ≡ false
  pub nest : members_depth ms ≤ n
  pub counts : MembersHaveCounts ms

-- What a program tells: its numbers have 64 bits, and its blocks are such.

abbrev pub Is64 : ℕ → Type 0
Is64 n = n < 2 ^ 64

abbrev pub IsSoundItem : Item → Type 0
IsSoundItem (item.Line id line) = Is64 id
IsSoundItem (item.Complete id line cursor) = Is64 id × Is64 cursor

abbrev pub IsSoundReply : Reply → Type 0
IsSoundReply reported.done = Unit {0}
IsSoundReply (reported.made id) = Is64 id
IsSoundReply (reported.asked life) = Is64 life
IsSoundReply (reported.refused why) = Unit {0}
IsSoundReply reported.bad = Unit {0}
IsSoundReply reported.nothing = Unit {0}
IsSoundReply (reported.waited over) = Unit {0}
IsSoundReply (reported.interrupted outcome) = Unit {0}
IsSoundReply (reported.undone first) = Is64 first

abbrev pub IsSoundEvent : EventReported → Type 0
IsSoundEvent (reported.banner output next) = is_block output ≡ true
IsSoundEvent (reported.answer id prompt output next) = Is64 id × (is_block output ≡ true)
IsSoundEvent (reported.completed id completions) = Is64 id
IsSoundEvent (reported.input line) = Unit {0}
IsSoundEvent (reported.ended why lost) = AllByRecursion IsSoundItem lost
IsSoundEvent (reported.warned outcome) = Unit {0}
IsSoundEvent (reported.partial bytes) = Unit {0}

abbrev pub IsSoundState : State → Type 0
IsSoundState (reported.answered prompt output) = is_block output ≡ true
IsSoundState (reported.lost why) = Unit {0}
IsSoundState reported.waiting = Unit {0}
IsSoundState reported.empty = Unit {0}

abbrev pub IsSoundField : FieldShown → Type 0
IsSoundField f = Is64 f.id × IsSoundState f.state

abbrev pub IsSoundLife : Option ℕ → Type 0
IsSoundLife None = Unit {0}
IsSoundLife (Some life) = Is64 life

abbrev pub IsSoundSession : SessionShown → Type 0
IsSoundSession s = IsSoundLife s.life × Is64 s.waiting

abbrev pub IsSoundAnswer : Option Answer → Type 0
IsSoundAnswer None = Unit {0}
IsSoundAnswer (Some answer) = is_block answer.output ≡ true

abbrev pub IsSoundCheck : CheckReported → Type 0
IsSoundCheck reported.same = Unit {0}
IsSoundCheck reported.left_out = Unit {0}
IsSoundCheck (reported.differs input shows came) = IsSoundAnswer shows × IsSoundAnswer came
IsSoundCheck (reported.unanswered input shows why) = IsSoundAnswer shows
IsSoundCheck (reported.new input came) = IsSoundAnswer came

abbrev pub IsSoundTook : Option Took → Type 0
IsSoundTook None = Unit {0}
IsSoundTook (Some took) = Is64 took.millis

abbrev pub IsSoundTelling : Telling → Type 0
IsSoundTelling reported.hello = Unit {0}
IsSoundTelling (reported.reply line r) = Is64 line × IsSoundReply r
IsSoundTelling (reported.stopped line session life lost) = Is64 line × Is64 life × AllByRecursion IsSoundItem lost
IsSoundTelling (reported.event session life e) = Is64 life × IsSoundEvent e
IsSoundTelling (reported.field line f) = Is64 line × IsSoundField f
IsSoundTelling (reported.part line f) = Is64 line × IsSoundField f
IsSoundTelling (reported.shown f) = IsSoundField f
IsSoundTelling (reported.sheet line ids next sessions) = Is64 line × AllByRecursion Is64 ids × Is64 next × AllByRecursion IsSoundSession sessions
IsSoundTelling (reported.exported line format text) = Is64 line
IsSoundTelling (reported.whole ids next sessions) = AllByRecursion Is64 ids × Is64 next × AllByRecursion IsSoundSession sessions
IsSoundTelling (reported.fault n name None) = Is64 n
IsSoundTelling (reported.fault n name (Some offset)) = Is64 n × Is64 offset
IsSoundTelling (reported.over id outcome) = Is64 id
IsSoundTelling (reported.counted answered unanswered errors) = Is64 answered × Is64 unanswered × Is64 errors
IsSoundTelling (reported.counted_in_time answered unanswered errors over passed) = Is64 answered × Is64 unanswered × Is64 errors × Is64 over × Is64 passed
IsSoundTelling (reported.checked id session took c) = Is64 id × IsSoundTook took × IsSoundCheck c
IsSoundTelling (reported.compared same differ unanswered left_out errors new) = Is64 same × Is64 differ × Is64 unanswered × Is64 left_out × Is64 errors × Is64 new
IsSoundTelling (reported.no_field id) = Is64 id
IsSoundTelling (reported.no_program session) = Unit {0}
IsSoundTelling reported.end = Unit {0}

-- Laws that make the table of events believable: what it always gives, and what it never does. (docs/dev/HOST.md, "Laws".)
use Rattle.std.specs.Prelude.{◌≡◌, ◌⊎◌, ◌<◌, ◌≤◌, ◌+◌, ◌==◌, ℕ, zero, suc, List, [], ◌∷◌, ◌++◌, length, Bool, true, false, Option, Some, None, if◌then◌else◌}
use Rattle.std.specs.List.{AllByRecursion}
use Rattle.worksheet.specs.declared.op.Op.{Op}
use Rattle.worksheet.specs.declared.field.Field.{Field}
use Rattle.worksheet.specs.declared.refusal.Refusal.TheVariants as refusal
use Rattle.worksheet.specs.Contents.{Contents}
use Rattle.worksheet.specs.Checks.{Allowed, field_in}
use Rattle.plugin_core.specs.declared.item.Item.{Item}
use Rattle.plugin_core.specs.declared.item.Item.TheVariants as item
use Rattle.plugin_core.specs.Items.{is_line_of}
use Rattle.host_events.specs.declared.event.ChildEvent.{ChildEvent}
use Rattle.host_events.specs.declared.event.Event.{Event}
use Rattle.host_events.specs.declared.event.Event.TheVariants as event
use Rattle.host_events.specs.declared.outcome.Effect.{Effect}
use Rattle.host_events.specs.declared.outcome.Effect.TheVariants as effect
use Rattle.host_events.specs.declared.outcome.Outcome.{Outcome}
use Rattle.host_events.specs.declared.reply.Reply.{Reply}
use Rattle.host_events.specs.declared.reply.Reply.TheVariants as reply
use Rattle.host_events.specs.declared.command.Command.{Command}
use Rattle.plugin_core.specs.declared.step.Ended.{Ended}
use Rattle.block_tree.specs.declared.reason.Reason.TheVariants as reason
use Rattle.session_engine.specs.World.{World, Going, world_at_opening, sheet_in, life_of, with_number, waiting_in}
use Rattle.session_engine.specs.Refused.{command_takes_memory}
use Rattle.session_engine.specs.Does.{Does, MayDo, Gives, Runs, tells}
use Rattle.host_laws.specs.Apart.{named}

-- The table says what each event does, and only one thing.

-- In every world every event has an outcome, and leads somewhere.
abbrev pub EachEventHasAnOutcome : Type 0
EachEventHasAnOutcome = (w : World) (e : Event) → (o : Outcome) × (v : World) × Gives w e o v

-- a refusal for lack of memory
abbrev pub lacks_memory : World → Does
lacks_memory w = tells w (reply.Refused refusal.OutOfMemory)

-- an event that may be refused so
abbrev pub may_want : World → Event → Bool
may_want w (event.Command c) = command_takes_memory w c
may_want w (event.Child name number e) = false

-- What an event does in a world is settled, but that a command may be refused for lack of memory.
abbrev pub AnEventDoesOneThing : Type 0
AnEventDoesOneThing = (w : World) (e : Event) (d f : Does) → MayDo w e d → MayDo w e f
    → (d ≡ f) ⊎ ((may_want w e ≡ true) × ((d ≡ lacks_memory w) ⊎ (f ≡ lacks_memory w)))

-- What was returned settles where events have led.
abbrev pub OutcomesLeadToOneWorld : Type 0
OutcomesLeadToOneWorld = (w : World) (es : List Event) (os : List Outcome) (v u : World) → Runs w es os v → Runs w es os u → v ≡ u

-- The replies of commands.

-- a reply of a command's own: that it was done, or refused; or the end of the life that it stopped, with which nothing closes
abbrev pub IsOwnReply : Reply → Type 0
IsOwnReply reply.Done = Unit {0}
IsOwnReply (reply.Field id) = Unit {0}
IsOwnReply (reply.Asked life) = Unit {0}
IsOwnReply (reply.Refused why) = Unit {0}
IsOwnReply (reply.Child reported) = (reported.closed ≡ None) × ((ended : Ended) × (reported.ended ≡ Some ended) × (ended.reason ≡ reason.Stopped))
IsOwnReply reply.Nothing = ⊥

-- Each command has a reply of its own. So of what is returned for a command and for all that comes of it, the first reply is the command's.
abbrev pub EachCommandHasAReply : Type 0
EachCommandHasAReply = (w : World) (c : Command) (o : Outcome) (v : World) → Gives w (event.Command c) o v → IsOwnReply o.reply

-- The numbers of lives.

-- the number of the life that an effect starts
abbrev pub started_by : Option Effect → List ℕ
started_by None = []
started_by (Some (effect.Start name number words)) = number ∷ []
started_by (Some (effect.Send name number bytes)) = []
started_by (Some (effect.Kill name number)) = []

-- those of all lives that these outcomes start, in order
abbrev pub all_started : List Outcome → List ℕ
all_started [] = []
all_started (o ∷ os) = started_by o.effect ++ all_started os

-- 1, 2 and so on, up to this number
abbrev pub numbers_to : ℕ → List ℕ
numbers_to zero = []
numbers_to (suc n) = numbers_to n ++ suc n ∷ []

-- the lives with this number
abbrev pub lives_numbered : ℕ → List Going → List Going
lives_numbered number [] = []
lives_numbered number (l ∷ ls) = if l.number == number then l ∷ lives_numbered number ls else lives_numbered number ls

-- Of one session at most one life goes on, and of one number at most one; each has a number that was given.
pub record AreNumbered (w : World) : Type 0 where
  pub names : (name : List ℕ) → length (named name w.lives) ≤ 1
  pub numbers : (number : ℕ) → length (lives_numbered number w.lives) ≤ 1
  pub given : (number : ℕ) → (number ≡ 0) ⊎ (w.begun < number) → lives_numbered number w.lives ≡ []

-- The lives that a host starts are numbered 1, 2 and so on. So no number is given twice.
abbrev pub NumbersAreGivenOnce : Type 0
NumbersAreGivenOnce = (ops : List Op) (room end : ℕ) (es : List Event) (os : List Outcome) (v : World) → Runs (world_at_opening ops room end) es os v
    → (all_started os ≡ numbers_to v.begun) × AreNumbered v

-- Nothing of an interpreter whose life has ended does anything: whatever a child event says of it later, the reply is Nothing, it gives no
-- op, and changes no life.
abbrev pub NothingOfAnEndedLife : Type 0
NothingOfAnEndedLife = (ops : List Op) (room end : ℕ) (es : List Event) (os : List Outcome) (w : World) → Runs (world_at_opening ops room end) es os w
    → (name : List ℕ) (number : ℕ) → number ≤ w.begun → with_number number (life_of w name) ≡ None
    → (later : List Event) (reported : List Outcome) (v : World) → Runs w later reported v
    → (e : ChildEvent) (d : Does) → MayDo v (event.Child name number e) d → d ≡ tells v reply.Nothing

-- Fields in flight.

-- A line of this session waits for a field: the worksheet has it, it is this session's, its input is the line's text, and it
-- shows no answer and no reason. Of a request of completions nothing is said.
abbrev pub WaitsForField : Contents → List ℕ → Item → Type 0
WaitsForField sheet name (item.Line id text) = (f : Field) × (field_in sheet.fields id ≡ Some f) × (f.session ≡ name) × (f.input ≡ text) × (f.answer ≡ None) × (f.lost ≡ None)
WaitsForField sheet name (item.Complete id text cursor) = Unit {0}

-- how many of these items are lines of this field
abbrev pub lines_among : ℕ → List Item → ℕ
lines_among id [] = 0
lines_among id (i ∷ items) = (if is_line_of id i then 1 else 0) + lines_among id items

-- how many lines of this field wait in these lives
abbrev pub lines_waiting : ℕ → List Going → ℕ
lines_waiting id [] = 0
lines_waiting id (l ∷ ls) = lines_among id (waiting_in l) + lines_waiting id ls

-- No field in flight shows an answer or a reason: each line that waits is the input, as it is now, of a field of its session
-- without either, and no field has two lines that wait.
abbrev pub NothingIsShownInFlight : Type 0
NothingIsShownInFlight = (ops : List Op) (room end : ℕ) (es : List Event) (os : List Outcome) (v : World) → Allowed ops → Runs (world_at_opening ops room end) es os v
    → AllByRecursion (λ l. AllByRecursion (WaitsForField (sheet_in v) l.name) (waiting_in l)) v.lives × ((id : ℕ) → lines_waiting id v.lives ≤ 1)

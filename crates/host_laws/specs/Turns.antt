-- Hosts one after another on one disk, each from its opening to a crash, and what their worksheets show. (docs/dev/HOST.md.)
use Rattle.std.specs.Prelude.{◌≡◌, ◌⊎◌, ◌==◌, ℕ, suc, false, List, [], ◌∷◌, ◌++◌, length, Option, Some, drop, slice_get, Result, IfOk, IfErr}
use Rattle.std.specs.List.{AllByRecursion}
use Rattle.block_tree.specs.Output.{output}
use Rattle.block_tree.specs.Tree.{Tree}
use Rattle.meta_format.specs.Stream.{Outer}
use Rattle.meta_format.specs.Faults.{Kind}
use Rattle.disk_model.specs.Disk.{DiskView, Image, InModel, Leaves, LeavesOnly}
use Rattle.worksheet.specs.declared.op.Op.{Op}
use Rattle.worksheet.specs.declared.op.Op.TheVariants as op
use Rattle.worksheet.specs.declared.field.Field.{Field}
use Rattle.worksheet.specs.declared.field.Answer.{Answer}
use Rattle.worksheet.specs.Contents.{Contents}
use Rattle.worksheet.specs.Ops.{sheet_of}
use Rattle.worksheet.specs.Checks.{Allowed, field_in}
use Rattle.recovery.specs.Sheets.{IsSheetImage}
use Rattle.plugin_core.specs.declared.item.Item.TheVariants as item
use Rattle.plugin_core.specs.Past.{received, stream_of, items_of}
use Rattle.plugin_core.specs.Items.{prompt_of}
use Rattle.plugin_core.specs.Steps.{Reads}
use Rattle.plugin_core.specs.AskPoints.{ClosesIn, IsAnswer}
use Rattle.session_engine.specs.Host.{EndsAt, HostView, IsHost, Took}
use Rattle.session_engine.specs.Faults.{Failed}
use Rattle.host_events.specs.declared.command.Command.TheVariants as command
use Rattle.host_events.specs.declared.event.ChildEvent.TheVariants as child
use Rattle.host_events.specs.declared.event.Event.{Event}
use Rattle.host_events.specs.declared.event.Event.TheVariants as event
use Rattle.host_events.specs.declared.outcome.HostFault.{HostFault}
use Rattle.host_events.specs.declared.outcome.Outcome.{Outcome}
use Rattle.host_events.specs.declared.reply.ChildReply.{ChildReply}
use Rattle.host_events.specs.declared.reply.Closed.TheVariants as closed
use Rattle.host_events.specs.declared.reply.Reply.TheVariants as reply
use Rattle.session_engine.specs.World.{World, Going, world_at_opening, sheet_in, life_of, waiting_in, with_number}
use Rattle.session_engine.specs.Does.{Gives, Runs}
use Rattle.session_engine.specs.Crash.{LeftAmong, HasPlayed, StoppedAt}

-- What a field shows.

-- the worksheet has exactly this field: its session, its input and what it shows
abbrev pub Has : Contents → Field → Type 0
Has sheet f = field_in sheet.fields f.id ≡ Some f

-- The event closes the answer that the field shows. It is a piece of a life of the field's session that
-- goes on, in which a line with the field's input is the first item that waits. The stream of that life, with the piece,
-- has a whole block which by the ask points is the answer to that line, and its last byte is one of
-- the piece. The field shows the output of this block.
pub record ClosesAnswer (w : World) (e : Event) (f : Field) : Type 0 where
  pub name : List ℕ
  pub number : ℕ
  pub piece : List ℕ
  pub is : e ≡ event.Child name number (child.Piece piece)
  pub of_session : f.session ≡ name
  pub life : Going
  pub goes_on : with_number number (life_of w name) ≡ Some life
  pub blocks : List Outer
  pub fault : Option Kind
  pub reads : Reads (stream_of (life.past ++ received piece ∷ [])) blocks fault
  -- the place of the line among the life's, counted from 0, and the block
  pub line : ℕ
  pub asked : slice_get (items_of life.past) line ≡ Some (item.Line f.id f.input)
  -- it is the first item that waits
  pub waits : waiting_in life ≡ item.Line f.id f.input ∷ drop (suc line) (items_of life.past)
  pub block : Outer
  pub answers : IsAnswer (life.past ++ received piece ∷ []) blocks (suc line) block
  pub closes : ClosesIn (life.past ++ received piece ∷ []) (length life.past) block
  pub shows : f.answer ≡ Some (record { prompt = prompt_of life.past life.blocks; output = output block.block })

-- One event that a host took: the world before it, the event, and the world after it.
pub record HostStep : Type 0 where
  pub before : World
  pub event : Event
  pub following : World

-- These are the steps of these events, with these outcomes, one after another from this world to that one.
pub data StepsOf : World → List Event → List Outcome → List HostStep → World → Type 0 where
  no_step : {w : World} → StepsOf w [] [] [] w
  step_first : {w mid v : World} {e : Event} {o : Outcome} {es : List Event} {os : List Outcome} {steps : List HostStep}
      → Gives w e o mid → StepsOf mid es os steps v
      → StepsOf w (e ∷ es) (o ∷ os) (record { before = w; event = e; following = mid } ∷ steps) v

-- after each of these steps the worksheet has exactly this field
abbrev pub KeepField : Field → List HostStep → Type 0
KeepField f steps = AllByRecursion (λ s. Has (sheet_in s.following) f) steps

-- One of these steps closed the answer that the field shows, and after it and after each later one the worksheet has the field so.
pub record AnsweredIn (steps : List HostStep) (f : Field) : Type 0 where
  pub earlier : List HostStep
  pub step : HostStep
  pub later : List HostStep
  pub split : steps ≡ earlier ++ step ∷ later
  pub closes : ClosesAnswer step.before step.event f
  pub stays : KeepField f (step ∷ later)

-- Hosts one after another.

-- What a caller saw of one host: the events that it gave it, in order, and the outcomes that were returned to it, of the first of them.
pub record HostTurn : Type 0 where
  pub events : List Event
  pub reported : List Outcome

-- A host was opened on an image of the worksheet of these ops. It took a prefix of the events that it was given, which has all those whose
-- outcome it returned. A crash left an image of the worksheet of those ops.
pub record Turned (room : ℕ) (before : Image) (found : List Op) (turn : HostTurn) (after : Image) (kept : List Op) : Type 0 where
  pub allowed : Allowed found
  pub opens : IsSheetImage (sheet_of found) before
  -- how full the journal is, is what the image says
  pub end : ℕ
  pub ends : EndsAt before end
  -- the events that it took, and those that were lost
  pub taken : List Event
  pub lost : List Event
  pub split : turn.events ≡ taken ++ lost
  -- the outcomes of those that it took: what it returned, and then what it didn't come to return
  pub withheld : List Outcome
  pub leads : World
  pub run : Runs (world_at_opening found room end) taken (turn.reported ++ withheld) leads
  pub ops : kept ≡ leads.ops
  pub leaves : IsSheetImage (sheet_of kept) after

-- a crash of such a turn left this image
abbrev pub LeftByTurn : ℕ → Image → List Op → HostTurn → Image → Type 0
LeftByTurn room before found turn after = (kept : List Op) × Turned room before found turn after kept

-- A play is a part of such a turn. A host was opened, took events and returned their outcomes, and a
-- play of these events comes after them. A crash inside it makes a turn that returned the outcomes of
-- those before it. A crash after it makes one that returned all its outcomes too: where it took some of
-- the first events, and where it stopped at a fault.
abbrev pub PlaysAreTurns : Type 0
PlaysAreTurns = (room end : ℕ) (before : Image) (found : List Op)
    → Allowed found → IsSheetImage (sheet_of found) before → EndsAt before end
    → (earlier : List Event) (said : List Outcome) (w : World)
    → Runs (world_at_opening found room end) earlier said w
    → (events : List Event) (reported : List Outcome) (after : Image)
    → (LeftAmong w events reported after
    → LeftByTurn room before found (record { events = earlier ++ events; reported = said }) after)
    × ((rest : List Event) (host : HostView) (played : HasPlayed w events rest reported host)
    → IsSheetImage (sheet_in played.leads) after
    → LeftByTurn room before found (record { events = earlier ++ events; reported = said ++ reported }) after)
    × ((old new : HostView) (fault : HostFault) → StoppedAt w events old new reported fault
    → InModel old.store.disk
    (Leaves (LeftByTurn room before found (record { events = earlier ++ events; reported = said ++ reported }))
    new.store.disk.history.now))

-- Each image that a crash leaves of a disk, at every moment from this state of it to that one, makes
-- such a turn.
abbrev pub CrashesAreTurns : ℕ → Image → List Op → HostTurn → DiskView → DiskView → Type 0
CrashesAreTurns room before found turn old new = InModel old
    (LeavesOnly (LeftByTurn room before found turn) old.history new.history)

-- So are single steps. A host was opened, took events and returned their outcomes, and stands for the
-- world that they led to; now a step takes one event more. A crash at any moment of it, whatever it
-- answers, makes a turn of the events with this one that returned those outcomes. Where it answers Ok,
-- the host stands for the world that the events with this one lead to. A crash after it then makes a
-- turn that returned this outcome too.
abbrev pub StepsAreTurns : Type 0
StepsAreTurns = (room end : ℕ) (before : Image) (found : List Op)
    → Allowed found → IsSheetImage (sheet_of found) before → EndsAt before end
    → (events : List Event) (reported : List Outcome) (w : World)
    → Runs (world_at_opening found room end) events reported w
    → (e : Event) (old new : HostView) (answer : Result Outcome HostFault)
    → IsHost old w → IfOk answer (Took w e old new) → IfErr answer (Failed w e old new)
    → CrashesAreTurns room before found (record { events = events ++ e ∷ []; reported = reported }) old.store.disk new.store.disk
    × IfOk answer (λ o. ((v : World) × Runs (world_at_opening found room end) (events ++ e ∷ []) (reported ++ o ∷ []) v × IsHost new v)
    × CrashesAreTurns room before found (record { events = events ++ e ∷ []; reported = reported ++ o ∷ [] }) new.store.disk new.store.disk)

-- Each of these hosts was opened on the image that the one before it left, as an image of the worksheet of some ops.
abbrev pub EachTurned : ℕ → Image → List HostTurn → Image → Type 0
EachTurned room before [] after = after ≡ before
EachTurned room before (turn ∷ turns) after = (mid : Image) × ((found : List Op) × (kept : List Op) × Turned room before found turn mid kept) × EachTurned room mid turns after

-- What one host leaves to the next: an image of the disk, and the ops of the worksheet that it stands for.
pub record HandedOn : Type 0 where
  pub image : Image
  pub ops : List Op

-- these two as one value
abbrev pub handed_on : Image → List Op → HandedOn
handed_on image ops = record { image = image; ops = ops }

-- Each of these hosts went on with the ops of the one before it, from these first ones to those last; and these are the steps of all
-- of them, in turn.
pub data WentOn (room : ℕ) : HandedOn → List HostTurn → List HostStep → HandedOn → Type 0 where
  no_host : {at : HandedOn} → WentOn room at [] [] at
  host_first : {before mid after : HandedOn} {turn : HostTurn} {turns : List HostTurn} {steps more : List HostStep}
      → (t : Turned room before.image before.ops turn mid.image mid.ops)
      → StepsOf (world_at_opening before.ops room t.end) t.taken (turn.reported ++ t.withheld) steps t.leads
      → WentOn room mid turns more after
      → WentOn room before (turn ∷ turns) (steps ++ more) after

-- What these hosts have left in the end: the worksheet of the first ops and of those of a prefix of each host's events in turn. Each prefix
-- has all events whose outcomes were returned. A field of it that shows an answer was there in the worksheet that was found first, and has
-- stayed as it was. Or it shows the output of a whole block that answered its line in one of the steps, and has stayed so since.
pub record LeftInTurn (room : ℕ) (first : List Op) (before after : Image) (turns : List HostTurn) : Type 0 where
  pub kept : List Op
  pub steps : List HostStep
  pub went : WentOn room (handed_on before first) turns steps (handed_on after kept)
  pub image : IsSheetImage (sheet_of kept) after
  pub shows : (f : Field) (answer : Answer) → Has (sheet_of kept) f → f.answer ≡ Some answer
      → (Has (sheet_of first) f × KeepField f steps) ⊎ AnsweredIn steps f

-- Hosts one after another, each from its opening to a crash, the first on a disk with the worksheet of these ops.
abbrev pub HostsInTurn : Type 0
HostsInTurn = (room : ℕ) (first : List Op) (before after : Image) (turns : List HostTurn)
    → Allowed first → IsSheetImage (sheet_of first) before → EachTurned room before turns after
    → LeftInTurn room first before after turns

-- Reported answers.

-- what an op is that leaves what the field with this number shows: it is about another field, moves this one, or makes something
abbrev pub SparesField : ℕ → Op → Type 0
SparesField id (op.Session name tab words) = Unit {0}
SparesField id (op.New after session input) = Unit {0}
SparesField id (op.Set other input) = (other == id) ≡ false
SparesField id (op.Remove other) = (other == id) ≡ false
SparesField id (op.Move other after) = Unit {0}
SparesField id (op.Clear other) = (other == id) ≡ false
SparesField id (op.Answer other prompt output) = (other == id) ≡ false
SparesField id (op.Lost other why) = (other == id) ≡ false
SparesField id (op.Ids number) = Unit {0}

-- a step gave no op, or such a one
abbrev pub StepLeavesField : ℕ → HostStep → Type 0
StepLeavesField id s = (s.following.ops ≡ s.before.ops) ⊎ ((o : Op) × (s.following.ops ≡ s.before.ops ++ o ∷ []) × SparesField id o)

-- the outcome says that the line of this field was answered
abbrev pub SaysAnswered : ℕ → Outcome → Type 0
SaysAnswered id o = (reported : ChildReply) × (o.reply ≡ reply.Child reported) × (reported.closed ≡ Some (closed.Line id))

-- A step had this outcome, that the line of a field was answered, and each later step of these hosts left the field. Then it shows the whole block that
-- closed this answer, from that step on and in the end.
abbrev pub ReportedAnswersStay : Type 0
ReportedAnswersStay = (room : ℕ) (first : List Op) (before after : Image) (turns : List HostTurn) (left : LeftInTurn room first before after turns) → Allowed first
    → (earlier later : List HostStep) (s : HostStep) (id : ℕ) (o : Outcome) → left.steps ≡ earlier ++ s ∷ later
    → Gives s.before s.event o s.following → SaysAnswered id o → AllByRecursion (StepLeavesField id) later
    → (f : Field) × (f.id ≡ id) × ClosesAnswer s.before s.event f × KeepField f (s ∷ later) × Has (sheet_of left.kept) f

-- Where an event puts an answer into a field, its outcome says that the line of that field was answered.
abbrev pub AnswersAreReported : Type 0
AnswersAreReported = (w v : World) (e : Event) (o : Outcome) → Gives w e o v
    → (id : ℕ) (prompt : List ℕ) (out : Tree) → v.ops ≡ w.ops ++ op.Answer id prompt out ∷ [] → SaysAnswered id o

-- Where an evaluation was accepted, what its field shows from there on, while this host runs, is what a whole block answered to a line
-- after it, or nothing, also where it was Stopped or its interpreter ended first.
abbrev pub EvaluatedAgain : Type 0
EvaluatedAgain = (found : List Op) (room end : ℕ) (es : List Event) (os : List Outcome) (w : World)
    → Allowed found → Runs (world_at_opening found room end) es os w
    → (id : ℕ) (o : Outcome) (mid : World) → Gives w (event.Command (command.Eval id)) o mid → mid.ops ≡ w.ops ++ op.Clear id ∷ []
    → (later : List Event) (reported : List Outcome) (steps : List HostStep) (v : World) → StepsOf mid later reported steps v
    → (f : Field) (answer : Answer) → f.id ≡ id → Has (sheet_in v) f → f.answer ≡ Some answer → AnsweredIn steps f

-- The same of hosts one after another: where one of their steps was an accepted evaluation, what its field shows in the end is what a whole
-- block answered in a later step, be it of that host or of one after it, or nothing.
abbrev pub EvaluatedAgainInTurn : Type 0
EvaluatedAgainInTurn = (room : ℕ) (first : List Op) (before after : Image) (turns : List HostTurn) (left : LeftInTurn room first before after turns) → Allowed first
    → (earlier later : List HostStep) (s : HostStep) (id : ℕ) → left.steps ≡ earlier ++ s ∷ later
    → s.event ≡ event.Command (command.Eval id) → s.following.ops ≡ s.before.ops ++ op.Clear id ∷ []
    → (f : Field) (answer : Answer) → f.id ≡ id → Has (sheet_of left.kept) f → f.answer ≡ Some answer → AnsweredIn later f

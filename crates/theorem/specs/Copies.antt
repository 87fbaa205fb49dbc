-- Answers that are put into a worksheet: each is the output of a whole block, which answered its field's line on a copy of the worksheet.
-- (docs/trust/THEOREM.md; premise A7 in README.md.)
use Rattle.std.specs.Prelude.{◌≡◌, ℕ, List, ◌++◌, Some, None}
use Rattle.worksheet.specs.declared.op.Op.{Op}
use Rattle.worksheet.specs.declared.op.Op.TheVariants as op
use Rattle.worksheet.specs.declared.field.Field.{Field}
use Rattle.worksheet.specs.declared.field.Answer.{Answer}
use Rattle.worksheet.specs.Contents.{Contents}
use Rattle.worksheet.specs.Ops.{sheet_of}
use Rattle.worksheet.specs.Checks.{Allowed}
use Rattle.host_events.specs.declared.command.Command.{Command}
use Rattle.host_events.specs.declared.command.Command.TheVariants as command
use Rattle.host_events.specs.declared.event.Event.{Event}
use Rattle.host_events.specs.declared.event.Event.TheVariants as event
use Rattle.host_events.specs.declared.outcome.Outcome.{Outcome}
use Rattle.session_engine.specs.World.{World, world_at_opening}
use Rattle.host_laws.specs.Turns.{AnsweredIn, Has, HostStep, StepsOf}

-- Answers that are put in, and the events that were given to the host of the copy from which they came.
pub record PutIn : Type 0 where
  pub given : List Event
  pub ops : List Op

-- these two as one value
abbrev pub put_from : List Event → List Op → PutIn
put_from given ops = record { given = given; ops = ops }

-- a command that evaluates a field
abbrev pub Evaluates : Command → Type 0
Evaluates (command.Eval id) = Unit {0}
Evaluates _ = ⊥

-- such a command, or what came from an interpreter
abbrev pub IsEvalOrChild : Event → Type 0
IsEvalOrChild (event.Command c) = Evaluates c
IsEvalOrChild (event.Child name number c) = Unit {0}

-- From the world of a host that is opened on a copy of this worksheet the first of these events led to that world, by these steps.
pub record StepsOnCopy (sheet : Contents) (given : List Event) : Type 0 where
  pub copied : List Op
  pub allowed : Allowed copied
  pub same : sheet_of copied ≡ sheet
  pub room : ℕ
  pub end : ℕ
  pub events : List Event
  pub later : List Event
  pub split : given ≡ events ++ later
  pub outcomes : List Outcome
  pub steps : List HostStep
  pub leads : World
  pub led : StepsOf (world_at_opening copied room end) events outcomes steps leads

-- The field shows the output of a whole block, by which a step of a host on a copy of this worksheet closed the answer to the field's line. That host was given
-- these events. On the copy the field with this number had the same session and input.
pub record WholeOnCopy (sheet : Contents) (given : List Event) (f : Field) : Type 0 where
  pub host : StepsOnCopy sheet given
  pub shown : Field
  pub number : shown.id ≡ f.id
  pub session : shown.session ≡ f.session
  pub input : shown.input ≡ f.input
  pub shows : shown.answer ≡ f.answer
  pub answered : AnsweredIn host.steps shown

-- the op puts an answer into a field of this worksheet, which then is so on a copy
pub record PutsWhole (sheet : Contents) (given : List Event) (put : Op) : Type 0 where
  pub field : Field
  pub has : Has sheet field
  pub answer : Answer
  pub puts : put ≡ op.Answer field.id answer.prompt answer.output
  pub whole : WholeOnCopy sheet given (record field { answer = Some answer; lost = None })

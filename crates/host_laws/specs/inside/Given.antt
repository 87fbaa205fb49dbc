-- What events give, cut into the parts that laws are proved of.
use Rattle.std.specs.Prelude.{◌≡◌, ◌⊎◌, ℕ, List, [], ◌∷◌, ◌++◌, Bool, true, false, Option, Some, None}
use Rattle.meta_format.specs.Stream.{Outer}
use Rattle.meta_format.specs.Faults.{Kind}
use Rattle.worksheet.specs.declared.op.Op.TheVariants as op
use Rattle.worksheet.specs.declared.refusal.Refusal.{Refusal}
use Rattle.worksheet.specs.declared.refusal.Refusal.TheVariants as refusal
use Rattle.worksheet.specs.Checks.{first_of}
use Rattle.block_tree.specs.declared.reason.Reason.{Reason}
use Rattle.block_tree.specs.declared.reason.Reason.TheVariants as reason
use Rattle.plugin_core.specs.declared.item.Item.TheVariants as item
use Rattle.plugin_core.specs.Past.{received, stream_of}
use Rattle.plugin_core.specs.Steps.{Reads, step_of}
use Rattle.plugin_core.specs.declared.step.Step.{Step}
use Rattle.host_events.specs.declared.command.Command.{Command}
use Rattle.host_events.specs.declared.command.Command.TheVariants as command
use Rattle.host_events.specs.declared.event.ChildEvent.{ChildEvent}
use Rattle.host_events.specs.declared.event.ChildEvent.TheVariants as child
use Rattle.host_events.specs.declared.event.Event.{Event}
use Rattle.host_events.specs.declared.event.Event.TheVariants as event
use Rattle.host_events.specs.declared.outcome.Outcome.{Outcome}
use Rattle.host_events.specs.declared.reply.Reply.TheVariants as reply
use Rattle.session_engine.specs.World.{World, Going, sheet_in, life_of, with_number, session_of_field, with_op_if, kept_at_end}
use Rattle.session_engine.specs.inside.Words.{line_of_field, request_of_field, with_op, renewed, reported_of, with_piece}
use Rattle.session_engine.specs.Refused.{command_refusals, command_takes_memory}
use Rattle.session_engine.specs.Does.{replies, refused, ends, op_by}
use Rattle.session_engine.specs.inside.Parts.{asks, with_item, without_life, goes_on}

abbrev pub stops : Option Going → Outcome
stops None = replies reply.Done
stops (Some l) = ends l reason.Stopped true

-- the outcome of an accepted command
abbrev pub outcome_of : World → Command → Outcome
outcome_of w (command.Session name tab words) = replies reply.Done
outcome_of w (command.New place session input) = replies (reply.Field (sheet_in w).next)
outcome_of w (command.Set id input) = replies reply.Done
outcome_of w (command.Remove id) = replies reply.Done
outcome_of w (command.Move id place) = replies reply.Done
outcome_of w (command.Clear id) = replies reply.Done
outcome_of w (command.Eval id) = asks w (session_of_field w id) (line_of_field w id) (life_of w (session_of_field w id))
outcome_of w (command.Complete id cursor) = asks w (session_of_field w id) (request_of_field w id cursor) (life_of w (session_of_field w id))
outcome_of w (command.CompleteText id cursor text) = asks w (session_of_field w id) (item.Complete id text cursor) (life_of w (session_of_field w id))
outcome_of w (command.Stop name) = stops (life_of w name)
outcome_of w command.Checkpoint = replies reply.Done

-- and where it leads
abbrev pub after : World → Command → World
after w (command.Session name tab words) = with_op (op.Session name tab words) w
after w (command.New place session input) = with_op (op.New place session input) w
after w (command.Set id input) = with_op (op.Set id input) w
after w (command.Remove id) = with_op (op.Remove id) w
after w (command.Move id place) = with_op (op.Move id place) w
after w (command.Clear id) = with_op (op.Clear id) w
after w (command.Eval id) = with_op (op.Clear id) (with_item w (session_of_field w id) (line_of_field w id) (life_of w (session_of_field w id)))
after w (command.Complete id cursor) = with_item w (session_of_field w id) (request_of_field w id cursor) (life_of w (session_of_field w id))
after w (command.CompleteText id cursor text) = with_item w (session_of_field w id) (item.Complete id text cursor) (life_of w (session_of_field w id))
after w (command.Stop name) = with_op_if (kept_at_end w reason.Stopped (life_of w name)) (without_life name w)
after w command.Checkpoint = renewed w

abbrev pub Commanded : World → Command → Option Refusal → Outcome → World → Type 0
Commanded w c (Some r) o v = (o ≡ refused r) × (v ≡ w)
Commanded w c None o v = ((o ≡ outcome_of w c) × (v ≡ after w c)) ⊎ ((command_takes_memory w c ≡ true) × (o ≡ refused refusal.OutOfMemory) × (v ≡ w))

-- a piece of a life, the blocks of its stream with it, and the fault that it brings
pub record PieceRead : Type 0 where
  pub piece : List ℕ
  pub blocks : List Outer
  pub fault : Option Kind

-- what the life gives at it
abbrev pub step_at : Going → PieceRead → Step
step_at l r = step_of l.past l.blocks r.piece r.blocks r.fault

abbrev pub IsPieced : World → Going → PieceRead → Outcome → World → Type 0
IsPieced w l r o v =
    Reads (stream_of (l.past ++ received r.piece ∷ [])) r.blocks r.fault
    × (o ≡ reported_of l (step_at l r))
    × (v ≡ with_op_if (op_by w.room w.end (step_at l r).answered (step_at l r).ended) (goes_on (with_piece l r.piece r.blocks) (step_at l r).ended w))

-- nothing comes of it
abbrev pub Ignored : World → Outcome → World → Type 0
Ignored w o v = (o ≡ replies reply.Nothing) × (v ≡ w)

abbrev pub Pieced : World → Option Going → List ℕ → Outcome → World → Type 0
Pieced w None piece o v = Ignored w o v
Pieced w (Some l) piece o v = (blocks : List Outer) × (fault : Option Kind) × IsPieced w l (record { piece = piece; blocks = blocks; fault = fault }) o v

abbrev pub Ended_by : World → Option Going → Reason → Bool → Outcome → World → Type 0
Ended_by w None why killed o v = Ignored w o v
Ended_by w (Some l) why killed o v = (o ≡ ends l why killed) × (v ≡ with_op_if (kept_at_end w why (Some l)) (without_life l.name w))

-- an event of the child of a life, where it goes on
abbrev pub Childed : World → Option Going → ChildEvent → Outcome → World → Type 0
Childed w l child.StartRefused o v = Ended_by w l reason.StartRefused false o v
Childed w l (child.Piece piece) o v = Pieced w l piece o v
Childed w l child.End o v = Ended_by w l reason.Ended true o v
Childed w l child.ReadFault o v = Ended_by w l reason.ReadFault true o v
Childed w l child.SendFault o v = Ended_by w l reason.SendFault true o v
Childed w l child.Stalled o v = Ended_by w l reason.Stalled true o v
Childed w l child.StopFault o v = Ignored w o v

abbrev pub GivesByParts : World → Event → Outcome → World → Type 0
GivesByParts w (event.Command c) o v = Commanded w c (first_of (command_refusals w c)) o v
GivesByParts w (event.Child name number e) o v = Childed w (with_number number (life_of w name)) e o v

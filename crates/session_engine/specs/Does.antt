-- What an accepted command and an event of a child do: one row for each. (docs/dev/HOST.md, "What an event does".)
use Rattle.std.specs.Prelude.{◌≡◌, ◌⊎◌, ℕ, ◌+◌, List, [], ◌∷◌, ◌++◌, Bool, true, false, Option, Some, None, option_map, option_and_then, if◌then◌else◌}
use Rattle.std.specs.Option.{option_map_or}
use Rattle.meta_format.specs.Stream.{Outer}
use Rattle.meta_format.specs.Faults.{Kind}
use Rattle.worksheet.specs.declared.op.Op.{Op}
use Rattle.worksheet.specs.declared.op.Op.TheVariants as op
use Rattle.worksheet.specs.declared.refusal.Refusal.{Refusal}
use Rattle.worksheet.specs.declared.refusal.Refusal.TheVariants as refusal
use Rattle.worksheet.specs.Checks.{first_of, session_named}
use Rattle.plugin_core.specs.declared.item.Item.{Item}
use Rattle.plugin_core.specs.declared.item.Item.TheVariants as item
use Rattle.plugin_core.specs.declared.step.Step.{Step}
use Rattle.plugin_core.specs.declared.step.Ended.{Ended}
use Rattle.plugin_core.specs.declared.step.Answered.{Answered}
use Rattle.plugin_core.specs.declared.step.Answered.TheVariants as answered
use Rattle.block_tree.specs.declared.reason.Reason.{Reason}
use Rattle.block_tree.specs.declared.reason.Reason.TheVariants as reason
use Rattle.plugin_core.specs.Past.{accepted, received, stream_of}
use Rattle.plugin_core.specs.Steps.{Reads, sent_by, step_of}
use Rattle.session_engine.specs.Named.{without_named, replace_named}
use Rattle.host_events.specs.Commands.{reply_to}
use Rattle.host_events.specs.declared.command.Command.{Command}
use Rattle.host_events.specs.declared.command.Command.TheVariants as command
use Rattle.host_events.specs.declared.event.ChildEvent.{ChildEvent}
use Rattle.host_events.specs.declared.event.ChildEvent.TheVariants as child
use Rattle.host_events.specs.declared.event.Event.{Event}
use Rattle.host_events.specs.declared.event.Event.TheVariants as event
use Rattle.host_events.specs.declared.outcome.Effect.{Effect}
use Rattle.host_events.specs.declared.outcome.Effect.TheVariants as effect
use Rattle.host_events.specs.declared.outcome.Outcome.{Outcome}
use Rattle.host_events.specs.declared.reply.Closed.{Closed}
use Rattle.host_events.specs.declared.reply.Closed.TheVariants as closed
use Rattle.host_events.specs.declared.reply.Reply.{Reply}
use Rattle.host_events.specs.declared.reply.Reply.TheVariants as reply
use Rattle.session_engine.specs.World.{World, Going, life_of, with_number, with_op_if, renewed_if, kept_in, kept_at_end, session_of_field, input_of, sheet_in, waiting_in}
use Rattle.session_engine.specs.Refused.{command_refusals, command_takes_memory}

-- What an event does: its outcome, its op if any, whether it rewrites the journal, how many lives have begun after it, and the lives that
-- go on.
pub record Does : Type 0 where
  pub reported : Outcome
  pub op : Option Op
  pub again : Bool
  pub begun : ℕ
  pub lives : List Going

-- the world after what an event does
abbrev pub following : World → Does → World
following w d = renewed_if d.again (with_op_if d.op (record w { begun = d.begun; lives = d.lives }))

-- What is returned.

-- a reply without an effect
abbrev pub replies : Reply → Outcome
replies r = record { reply = r; effect = None }

abbrev pub refused : Refusal → Outcome
refused r = replies (reply.Refused r)

-- the end of a life at which no answer closes: its reason, and the items that wait are lost; its child is killed or not
abbrev pub ends : Going → Reason → Bool → Outcome
ends l why killed = record {
  reply = reply.Child (record { name = l.name; life = l.number; closed = None; default_input = None; ended = Some (record { reason = why; lost = waiting_in l }) });
  effect = if killed then Some (effect.Kill l.name l.number) else None;
}

-- the answer that a piece closes, as it is returned
abbrev pub closed_reported : Option Answered → Option Closed
closed_reported None = None
closed_reported (Some (answered.Banner b)) = Some (closed.Banner b)
closed_reported (Some (answered.Line id prompt output)) = Some (closed.Line id)
closed_reported (Some (answered.Complete id result)) = Some (closed.Complete id result)

-- The op that a piece gives, by the answer that it closes and by the end that it brings: that of the answer to a line; where no item
-- was answered, that of the end.
abbrev pub op_by : ℕ → ℕ → Option Answered → Option Ended → Option Op
op_by room end (Some (answered.Line id prompt output)) end_brought = Some (op.Answer id prompt output)
op_by room end (Some (answered.Complete id result)) end_brought = None
op_by room end _ end_brought = option_and_then (λ e. kept_in room end e.reason e.lost) end_brought

-- what a piece makes be done: the child is killed where the life ends, else it is sent these bytes, if there are any
abbrev pub sends_or_kills : List ℕ → ℕ → Option (List ℕ) → Option Ended → Option Effect
sends_or_kills name number send None = option_map (λ bytes. effect.Send name number bytes) send
sends_or_kills name number send (Some e) = Some (effect.Kill name number)

-- What is returned for a piece of a life, by its name and number: the answer that it closes, the default input of that, and the end that
-- it brings. Where it closes no answer and brings no end, the reply is Nothing.
abbrev pub reported_with : List ℕ → ℕ → Option Closed → Option (List ℕ) → Option (List ℕ) → Option Ended → Outcome
reported_with name number None default_input send None = replies reply.Nothing
reported_with name number answer default_input send end = record {
  reply = reply.Child (record { name = name; life = number; closed = answer; default_input = default_input; ended = end });
  effect = sends_or_kills name number send end;
}

-- The lives after an event.

-- the lives after a piece of one of them, which is now this one: it stands in the place of what it was, and is taken out where it ended
abbrev pub lives_after : Going → Option Ended → List Going → List Going
lives_after l None lives = replace_named (λ g. g.name) l.name l lives
lives_after l (Some e) lives = without_named (λ g. g.name) l.name lives

-- The rows.

-- an event does nothing but return this reply
abbrev pub tells : World → Reply → Does
tells w r = record { reported = replies r; op = None; again = false; begun = w.begun; lives = w.lives }

-- an event gives this op, and no life changes
abbrev pub changes : World → Op → Does
changes w o = record { reported = replies (reply_to (sheet_in w) o); op = Some o; again = false; begun = w.begun; lives = w.lives }

-- A session is asked an item, which gives this op or none. The item begins a life, or joins the one that goes on.
abbrev pub asks_item : World → Item → Option Op → List ℕ → Option Going → Does
asks_item w i given name None = record {
  reported = record { reply = reply.Asked (w.begun + 1); effect = Some (effect.Start name (w.begun + 1) (option_map_or (λ s. s.words) (session_named (sheet_in w).sessions name) [])) };
  op = given;
  again = false;
  begun = w.begun + 1;
  lives = w.lives ++ record { name = name; number = w.begun + 1; past = accepted i ∷ []; blocks = [] } ∷ [];
}
asks_item w i given name (Some l) = record {
  reported = record { reply = reply.Asked l.number; effect = option_map (λ bytes. effect.Send name l.number bytes) (sent_by l.past l.blocks (accepted i) l.blocks) };
  op = given;
  again = false;
  begun = w.begun;
  lives = replace_named (λ g. g.name) l.name (record l { past = l.past ++ accepted i ∷ [] }) w.lives;
}

-- the session of a field is asked what can stand at a cursor in a text, and the worksheet stays as it is
abbrev pub asks_completions : World → ℕ → List ℕ → ℕ → Does
asks_completions w id text cursor = asks_item w (item.Complete id text cursor) None (session_of_field w id) (life_of w (session_of_field w id))

-- a life ends from outside; where none goes on, only this is returned
abbrev pub ends_life : World → Reason → Bool → Option Going → Reply → Does
ends_life w why killed None else_reported = tells w else_reported
ends_life w why killed (Some l) else_reported = record { reported = ends l why killed; op = kept_at_end w why (Some l); again = false; begun = w.begun; lives = without_named (λ g. g.name) l.name w.lives }

-- a piece of a life gives this step of it, where these are the blocks of its stream with the piece
abbrev pub steps : World → Going → List ℕ → List Outer → Step → Does
steps w l piece blocks s = record {
  reported = reported_with l.name l.number (closed_reported s.answered) s.default_input s.send s.ended;
  op = op_by w.room w.end s.answered s.ended;
  again = false;
  begun = w.begun;
  lives = lives_after (record l { past = l.past ++ received piece ∷ []; blocks = blocks }) s.ended w.lives;
}

-- what an accepted command does
abbrev pub does : World → Command → Does
does w (command.Session name tab words) = changes w (op.Session name tab words)
does w (command.New after session input) = changes w (op.New after session input)
does w (command.Set id input) = changes w (op.Set id input)
does w (command.Remove id) = changes w (op.Remove id)
does w (command.Move id after) = changes w (op.Move id after)
does w (command.Clear id) = changes w (op.Clear id)
-- the line of the field is asked, and its answer is taken away
does w (command.Eval id) = asks_item w (item.Line id (input_of w id)) (Some (op.Clear id)) (session_of_field w id) (life_of w (session_of_field w id))
-- its input is asked at the cursor, or the text that stands in its place
does w (command.Complete id cursor) = asks_completions w id (input_of w id) cursor
does w (command.CompleteText id cursor text) = asks_completions w id text cursor
does w (command.Stop name) = ends_life w reason.Stopped true (life_of w name) reply.Done
-- only the journal changes: it is rewritten
does w command.Checkpoint = record { reported = replies reply.Done; op = None; again = true; begun = w.begun; lives = w.lives }

-- What an event of a child does, where this is the life with its number, if that goes on. A piece does what the stream of the
-- life with it tells by its blocks and its fault.
abbrev pub ChildDoes : World → Option Going → ChildEvent → Does → Type 0
ChildDoes w l child.StartRefused d = d ≡ ends_life w reason.StartRefused false l reply.Nothing
ChildDoes w None (child.Piece piece) d = d ≡ tells w reply.Nothing
ChildDoes w (Some l) (child.Piece piece) d =
    (blocks : List Outer) × (fault : Option Kind) × Reads (stream_of (l.past ++ received piece ∷ [])) blocks fault
    × (d ≡ steps w l piece blocks (step_of l.past l.blocks piece blocks fault))
ChildDoes w l child.End d = d ≡ ends_life w reason.Ended true l reply.Nothing
ChildDoes w l child.ReadFault d = d ≡ ends_life w reason.ReadFault true l reply.Nothing
ChildDoes w l child.SendFault d = d ≡ ends_life w reason.SendFault true l reply.Nothing
ChildDoes w l child.Stalled d = d ≡ ends_life w reason.Stalled true l reply.Nothing
ChildDoes w l child.StopFault d = d ≡ tells w reply.Nothing

-- A command where this is the first refusal that applies: it is refused so; or it is accepted, or refused for lack of memory.
abbrev pub CommandDoes : World → Command → Option Refusal → Does → Type 0
CommandDoes w c (Some r) d = d ≡ tells w (reply.Refused r)
CommandDoes w c None d = (d ≡ does w c) ⊎ ((command_takes_memory w c ≡ true) × (d ≡ tells w (reply.Refused refusal.OutOfMemory)))

-- what an event may do
abbrev pub MayDo : World → Event → Does → Type 0
MayDo w (event.Command c) d = CommandDoes w c (first_of (command_refusals w c)) d
MayDo w (event.Child name number e) d = ChildDoes w (with_number number (life_of w name)) e d

-- an event gives this outcome, and leads there
abbrev pub Gives : World → Event → Outcome → World → Type 0
Gives w e o v = (d : Does) × MayDo w e d × (o ≡ d.reported) × (v ≡ following w d)

-- events one after another give these outcomes, and lead there
abbrev pub Runs : World → List Event → List Outcome → World → Type 0
Runs w [] [] v = v ≡ w
Runs w (e ∷ es) (o ∷ os) v = (mid : World) × Gives w e o mid × Runs mid es os v
Runs w [] (o ∷ os) v = ⊥
Runs w (e ∷ es) [] v = ⊥

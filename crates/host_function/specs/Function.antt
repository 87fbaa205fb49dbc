-- What the host does, as a function. One choice is left to it: whether memory is refused to a command. (docs/dev/HOST.md, "What an event does".)
use Rattle.std.specs.Prelude.{◌≡◌, ◌↔◌, ◌&&◌, ℕ, List, [], ◌∷◌, ◌++◌, Bool, true, false, Option, Some, None}
use Rattle.std.specs.List.{AllByRecursion}
use Rattle.meta_format.specs.Limits.{limits}
use Rattle.meta_format.specs.Stream.{Outer}
use Rattle.meta_format.specs.Faults.{Kind}
use Rattle.meta_format.specs.inside.Machine.{Mode, outside, tag_of, body_of, escape_of, broken, State, start_state, run}
use Rattle.worksheet.specs.declared.refusal.Refusal.{Refusal}
use Rattle.worksheet.specs.declared.refusal.Refusal.TheVariants as refusal
use Rattle.worksheet.specs.Checks.{first_of}
use Rattle.plugin_core.specs.Past.{received, stream_of}
use Rattle.plugin_core.specs.Steps.{Reads, step_of}
use Rattle.block_tree.specs.declared.reason.Reason.TheVariants as reason
use Rattle.host_events.specs.declared.command.Command.{Command}
use Rattle.host_events.specs.declared.event.ChildEvent.{ChildEvent}
use Rattle.host_events.specs.declared.event.ChildEvent.TheVariants as child
use Rattle.host_events.specs.declared.event.Event.{Event}
use Rattle.host_events.specs.declared.event.Event.TheVariants as event
use Rattle.host_events.specs.declared.outcome.Outcome.{Outcome}
use Rattle.host_events.specs.declared.reply.Reply.{Reply}
use Rattle.host_events.specs.declared.reply.Reply.TheVariants as reply
use Rattle.session_engine.specs.World.{World, Going, life_of, with_number}
use Rattle.session_engine.specs.Refused.{command_refusals, command_takes_memory}
use Rattle.session_engine.specs.Does.{Does, Gives, Runs, does, ends_life, following, steps, tells}

-- A stream is read byte by byte.

-- the machine of a reader after a stream
abbrev pub reader_after : List ℕ → State
reader_after s = run limits start_state s

-- the fault at which it stopped, if it did
abbrev pub machine_fault : Mode → Option Kind
machine_fault outside = None
machine_fault (tag_of start marks levels name) = None
machine_fault (body_of start marks levels) = None
machine_fault (escape_of start marks levels) = None
machine_fault (broken kind at) = Some kind

-- the blocks of a stream, and its fault, if it has one
abbrev pub read_as : List ℕ → List Outer × Option Kind
read_as s = ((reader_after s).out, machine_fault (reader_after s).mode)

-- What is done.

-- a piece of a life that goes on, where this is the machine after its stream with the piece
abbrev pub piece_done : World → Going → List ℕ → State → Does
piece_done w l piece q = steps w l piece q.out (step_of l.past l.blocks piece q.out (machine_fault q.mode))

-- an event of a child, where this is the life with its number, if that goes on
abbrev pub child_done : World → Option Going → ChildEvent → Does
child_done w l child.StartRefused = ends_life w reason.StartRefused false l reply.Nothing
child_done w None (child.Piece piece) = tells w reply.Nothing
child_done w (Some l) (child.Piece piece) = piece_done w l piece (reader_after (stream_of (l.past ++ received piece ∷ [])))
child_done w l child.End = ends_life w reason.Ended true l reply.Nothing
child_done w l child.ReadFault = ends_life w reason.ReadFault true l reply.Nothing
child_done w l child.SendFault = ends_life w reason.SendFault true l reply.Nothing
child_done w l child.Stalled = ends_life w reason.Stalled true l reply.Nothing
child_done w l child.StopFault = tells w reply.Nothing

-- a command that nothing else refuses, by whether it lacks memory
abbrev pub accepted_done : Bool → World → Command → Does
accepted_done true w c = tells w (reply.Refused refusal.OutOfMemory)
accepted_done false w c = does w c

-- a command, by whether memory is refused, where this is the first of its refusals that applies
abbrev pub command_done : Bool → World → Command → Option Refusal → Does
command_done refuses w c (Some r) = tells w (reply.Refused r)
command_done refuses w c None = accepted_done (refuses && command_takes_memory w c) w c

-- an event, by whether memory is refused
abbrev pub event_done : Bool → World → Event → Does
event_done refuses w (event.Command c) = command_done refuses w c (first_of (command_refusals w c))
event_done refuses w (event.Child name number e) = child_done w (with_number number (life_of w name)) e

-- What events give.

-- the outcome of what is done, and the world after it
abbrev pub outcome_and_world : World → Does → Outcome × World
outcome_and_world w d = (d.reported, following w d)

-- the outcome of an event, and the world after it, by whether memory is refused to it
abbrev pub given : Bool → World → Event → Outcome × World
given refuses w e = outcome_and_world w (event_done refuses w e)

-- an outcome, and those of the events after it
abbrev pub and_then : Outcome × World → (World → List Outcome × World) → List Outcome × World
and_then first later = let rest = later first.1 in (first.0 ∷ rest.0, rest.1)

-- The outcomes of events one after another, and the world after them, by whether memory is refused to each; where the choices end, it is
-- refused to none.
abbrev pub all_given : List Bool → World → List Event → List Outcome × World
all_given choices w [] = ([], w)
all_given [] w (e ∷ es) = and_then (given false w e) (λ v. all_given [] v es)
all_given (refuses ∷ choices) w (e ∷ es) = and_then (given refuses w e) (λ v. all_given choices v es)

-- The laws.

-- A stream has these blocks and this fault, or none, exactly where they are computed.
abbrev pub ReadingIsAFunction : Type 0
ReadingIsAFunction = (s : List ℕ) (blocks : List Outer) (fault : Option Kind) → Reads s blocks fault ↔ (read_as s ≡ (blocks, fault))

-- What the relation has of an event is what the function gives for a choice, and all of it.
abbrev pub GivesIsAFunction : Type 0
GivesIsAFunction = (w : World) (e : Event) (o : Outcome) (v : World) → Gives w e o v ↔ ((refuses : Bool) × (given refuses w e ≡ (o, v)))

-- The same of events one after another, for a choice of each.
abbrev pub RunsIsAFunction : Type 0
RunsIsAFunction = (w : World) (es : List Event) (os : List Outcome) (v : World) → Runs w es os v ↔ ((choices : List Bool) × (all_given choices w es ≡ (os, v)))

-- a refusal for lack of memory
abbrev pub is_lack : Reply → Bool
is_lack (reply.Refused refusal.OutOfMemory) = true
is_lack _ = false

-- Where no event is refused for lack of memory there is no choice: the outcomes, and the world, are those that the function gives where
-- memory is refused to none.
abbrev pub MemoryIsTheOnlyChoice : Type 0
MemoryIsTheOnlyChoice = (w : World) (es : List Event) (os : List Outcome) (v : World) → Runs w es os v → AllByRecursion (λ o. is_lack o.reply ≡ false) os
    → all_given [] w es ≡ (os, v)

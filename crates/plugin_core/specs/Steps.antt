-- What the calls on a life give, after each past of it. (docs/use/PROTOCOL.md, one life.)
use Rattle.std.specs.Prelude.{ℕ, List, [], ◌∷◌, ◌++◌, length, codes, Option, Some, None, option_map, option_and_then, slice_get}
use Rattle.block_tree.specs.Output.{text_on_channel}
use Rattle.meta_format.specs.Limits.{limits}
use Rattle.meta_format.specs.Stream.{Outer, Stream}
use Rattle.meta_format.specs.Faults.{Kind, bad_tag, too_deep, too_long, IsSound}
use Rattle.meta_format.specs.Reader.{Faults}
use Rattle.block_tree.specs.declared.reason.Reason.{Reason}
use Rattle.block_tree.specs.declared.reason.Reason.TheVariants as reason
use Rattle.plugin_core.specs.declared.step.Step.{Step}
use Rattle.plugin_core.specs.Past.{Event, received, items_of}
use Rattle.plugin_core.specs.Answers.{answers_of}
use Rattle.plugin_core.specs.Items.{waiting_of, asked_of, bytes_of, prompt_of, answer_following}

-- The stream has these outer blocks, and no fault; or it has its first fault, of this kind, and these blocks before it.
abbrev pub Reads : List ℕ → List Outer → Option Kind → Type 0
Reads s blocks None = ((tail : List ℕ) × Stream limits s blocks tail) × IsSound limits s
Reads s blocks (Some kind) = (at : ℕ) × Faults limits s at kind blocks

-- why a life ends at a fault of its stream
abbrev pub reason_of : Kind → Reason
reason_of bad_tag = reason.BadTag
reason_of too_deep = reason.TooDeep
reason_of too_long = reason.TooLong

-- the answer that an event closes, where these are the blocks before it and after it
abbrev pub closed_by : List Event → List Outer → Event → List Outer → Option Outer
closed_by past before event after = slice_get (answers_of (past ++ event ∷ []) after) (length (answers_of past before))

-- the bytes of the item that an event asks, where these are the blocks before it and after it
abbrev pub sent_by : List Event → List Outer → Event → List Outer → Option (List ℕ)
sent_by past before event after = option_map bytes_of (slice_get (asked_of (past ++ event ∷ []) after) (length (asked_of past before)))

-- what is sent, where the stream has this fault or none: nothing where the life ends
abbrev pub unless_ended : Option Kind → Option (List ℕ) → Option (List ℕ)
unless_ended None bytes = bytes
unless_ended (Some kind) bytes = None

-- What a piece gives after a past, where these are the blocks of the stream before it and after it, and this the fault
-- that it brings.
abbrev pub step_of : List Event → List Outer → List ℕ → List Outer → Option Kind → Step
step_of past before piece after fault = record {
  answered = option_and_then (λ b. answer_following (answers_of past before) (items_of past) (prompt_of past before) b.block) (closed_by past before (received piece) after);
  default_input = option_and_then (λ b. text_on_channel (codes "input") b.block) (closed_by past before (received piece) after);
  send = unless_ended fault (sent_by past before (received piece) after);
  ended = option_map (λ kind. record { reason = reason_of kind; lost = waiting_of (past ++ received piece ∷ []) after }) fault;
}

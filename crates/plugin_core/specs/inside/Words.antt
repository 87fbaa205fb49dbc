-- Names for parts of definitions, which proofs and private clauses use.
use Rattle.std.specs.Prelude.{ℕ, List, length, take, codes, Option, option_map, slice_get}
use Rattle.block_tree.specs.Tree.{Tree}
use Rattle.block_tree.specs.Output.{text_on_channel}
use Rattle.meta_format.specs.Stream.{Outer}
use Rattle.meta_format.specs.Faults.{Kind}
use Rattle.plugin_core.specs.declared.step.Answered.{Answered}
use Rattle.plugin_core.specs.declared.step.Ended.{Ended}
use Rattle.plugin_core.specs.Limits.{longest_prompt}
use Rattle.plugin_core.specs.Past.{Event, items_of}
use Rattle.plugin_core.specs.Answers.{answers_of}
use Rattle.plugin_core.specs.Items.{waiting_of, prompt_of, answer_following}
use Rattle.plugin_core.specs.Steps.{reason_of}

-- the prompt of a block, cut to its first bytes
abbrev pub prompt_in : Tree → Option (List ℕ)
prompt_in b = option_map (λ text. take longest_prompt text) (text_on_channel (codes "prompt") b)

-- the default input of a block
abbrev pub default_in : Tree → Option (List ℕ)
default_in b = text_on_channel (codes "input") b

-- the prompt before any block has one
abbrev pub first_prompt : List ℕ
first_prompt = codes "> "

-- the element of the second list that stands after as many as the first one has
abbrev pub next_beyond : {T : Type 0} → List T → List T → Option T
next_beyond before after = slice_get after (length before)

-- what is returned for a block that is the next answer after this past
abbrev pub answered_with : List Event → List Outer → Outer → Option Answered
answered_with past before b = answer_following (answers_of past before) (items_of past) (prompt_of past before) b.block

-- the end of a life at a fault, with the items that wait then
abbrev pub ended_by : List Event → List Outer → Kind → Ended
ended_by past blocks kind = record { reason = reason_of kind; lost = waiting_of past blocks }

-- What follows from the definitions of a life.
use Rattle.std.specs.Prelude.{◌≡◌, ◌≤◌, ℕ, List, length, Option}
use Rattle.meta_format.specs.Stream.{Outer}
use Rattle.meta_format.specs.Faults.{Kind}
use Rattle.plugin_core.specs.declared.step.Step.{Step}
use Rattle.plugin_core.specs.Limits.{longest_prompt}
use Rattle.plugin_core.specs.Past.{Event}
use Rattle.plugin_core.specs.Items.{prompt_of}
use Rattle.plugin_core.specs.Steps.{Reads}
use Rattle.plugin_core.specs.Kept.{InterpreterView, Takes}

-- A stream has one list of blocks before its fault, and one fault or none.
abbrev pub OneReading : Type 0
OneReading = (s : List ℕ) (blocks others : List Outer) (fault other : Option Kind) → Reads s blocks fault → Reads s others other
    → (blocks ≡ others) × (fault ≡ other)

-- A piece gives one step, whatever life takes it.
abbrev pub OneStep : Type 0
OneStep = (past : List Event) (before : List Outer) (piece : List ℕ) (step other : Step) (life another : InterpreterView) → Takes past before piece step life → Takes past before piece other another
    → step ≡ other

-- No prompt is longer than a prompt may be.
abbrev pub ShortPrompts : Type 0
ShortPrompts = (past : List Event) (blocks : List Outer) → length (prompt_of past blocks) ≤ longest_prompt

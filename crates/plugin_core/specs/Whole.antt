-- What is returned for an item is the whole answer to it, in the words of ask points.
use Rattle.std.specs.Prelude.{◌≡◌, ℕ, suc, List, [], ◌∷◌, ◌++◌, length, Some, None, slice_get, Result}
use Rattle.block_tree.specs.Tree.{Tree}
use Rattle.block_tree.specs.Output.{output}
use Rattle.meta_format.specs.Limits.{limits}
use Rattle.meta_format.specs.Spelling.{Spells}
use Rattle.meta_format.specs.Stream.{Outer}
use Rattle.scheme_text.specs.Reported.{reported_by}
use Rattle.scheme_text.specs.declared.answer.BadCompletion.{BadCompletion}
use Rattle.scheme_text.specs.declared.answer.Completions.{Completions}
use Rattle.plugin_core.specs.declared.item.Item.TheVariants as item
use Rattle.plugin_core.specs.declared.step.Step.{Step}
use Rattle.plugin_core.specs.declared.step.Answered.TheVariants as answered
use Rattle.plugin_core.specs.Past.{Event, received, stream_of, items_of}
use Rattle.plugin_core.specs.AskPoints.{IsAnswer, ClosesIn}
use Rattle.plugin_core.specs.Items.{prompt_of}
use Rattle.plugin_core.specs.Steps.{Reads}
use Rattle.plugin_core.specs.Kept.{InterpreterView, Takes}

-- The bytes of the stream from the block's start to its stop spell it, all of it.
pub record IsWholeIn (s : List ℕ) (b : Outer) : Type 0 where
  pub front : List ℕ
  pub spelling : List ℕ
  pub rest : List ℕ
  pub is : s ≡ front ++ spelling ++ rest
  pub start : b.start ≡ length front
  pub stop : b.stop ≡ length (front ++ spelling)
  pub spells : Spells limits b.block spelling

-- Of the line with this field the output is that of a whole block of the stream, which answers this line and no other item, and whose
-- last byte came in this piece.
pub record IsItsAnswer (past : List Event) (piece : List ℕ) (after : List Outer) (id : ℕ) (out : Tree) : Type 0 where
  -- the items before the line, its text, and the block
  pub number : ℕ
  pub text : List ℕ
  pub answer : Outer
  pub line : slice_get (items_of past) number ≡ Some (item.Line id text)
  pub answers : IsAnswer (past ++ received piece ∷ []) after (suc number) answer
  pub closes : ClosesIn (past ++ received piece ∷ []) (length past) answer
  pub whole : IsWholeIn (stream_of (past ++ received piece ∷ [])) answer
  pub shown : out ≡ output answer.block

abbrev pub TellsTheAnswer : Type 0
TellsTheAnswer = (past : List Event) (before : List Outer) (piece : List ℕ) (step : Step) (life : InterpreterView) → Reads (stream_of past) before None → (t : Takes past before piece step life)
    → (id : ℕ) (prompt : List ℕ) (out : Tree) → step.answered ≡ Some (answered.Line id prompt out)
    → IsItsAnswer past piece t.after id out × (prompt ≡ prompt_of past before)

-- Of the request of completions for this field the result is what the output of a whole block of the stream tells, which answers this
-- request and no other item, and whose last byte came in this piece.
pub record IsItsCompletion (past : List Event) (piece : List ℕ) (after : List Outer) (id : ℕ) (result : Result Completions BadCompletion) : Type 0 where
  -- the items before the request, its text and cursor, and the block
  pub number : ℕ
  pub text : List ℕ
  pub cursor : ℕ
  pub answer : Outer
  pub asks : slice_get (items_of past) number ≡ Some (item.Complete id text cursor)
  pub answers : IsAnswer (past ++ received piece ∷ []) after (suc number) answer
  pub closes : ClosesIn (past ++ received piece ∷ []) (length past) answer
  pub whole : IsWholeIn (stream_of (past ++ received piece ∷ [])) answer
  pub reported : result ≡ reported_by (output answer.block)

abbrev pub TellsTheCompletion : Type 0
TellsTheCompletion = (past : List Event) (before : List Outer) (piece : List ℕ) (step : Step) (life : InterpreterView) → Reads (stream_of past) before None → (t : Takes past before piece step life)
    → (id : ℕ) (result : Result Completions BadCompletion) → step.answered ≡ Some (answered.Complete id result) → IsItsCompletion past piece t.after id result

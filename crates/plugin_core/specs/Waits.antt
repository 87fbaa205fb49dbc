-- Which lines wait, in the words of ask points.
use Rattle.std.specs.Prelude.{◌≡◌, ◌↔◌, ℕ, suc, List, Option, Some, IsTrue, slice_get}
use Rattle.std.specs.List.{list_any}
use Rattle.meta_format.specs.Stream.{Outer}
use Rattle.meta_format.specs.Faults.{Kind}
use Rattle.plugin_core.specs.declared.item.Item.TheVariants as item
use Rattle.plugin_core.specs.Past.{Event, stream_of, items_of}
use Rattle.plugin_core.specs.AskPoints.{IsAnswer}
use Rattle.plugin_core.specs.Items.{waiting_of, is_line_of}
use Rattle.plugin_core.specs.Steps.{Reads}

-- A line for this field was accepted, and no block answers it so far.
pub record HasUnanswered (past : List Event) (blocks : List Outer) (id : ℕ) : Type 0 where
  pub number : ℕ
  pub text : List ℕ
  pub line : slice_get (items_of past) number ≡ Some (item.Line id text)
  pub unanswered : (b : Outer) → IsAnswer past blocks (suc number) b → ⊥

abbrev pub WaitsWhatIsUnanswered : Type 0
WaitsWhatIsUnanswered = (past : List Event) (blocks : List Outer) (fault : Option Kind) → Reads (stream_of past) blocks fault → (id : ℕ)
    → IsTrue (list_any (λ i. is_line_of id i) (waiting_of past blocks)) ↔ HasUnanswered past blocks id

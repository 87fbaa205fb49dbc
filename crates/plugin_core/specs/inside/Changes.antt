-- What the private functions of a life do to what it keeps. Public contracts cite none of this.
use Rattle.std.specs.Prelude.{◌≡◌, ℕ, List, [], ◌∷◌, ◌++◌, drop, Bool, true, false, Option, Some, None, unwrap_or, option_map, option_and_then, slice_get}
use Rattle.block_tree.specs.Tree.{Tree}
use Rattle.block_tree.specs.Output.{output}
use Rattle.meta_format.specs.Stream.{Outer}
use Rattle.meta_format.specs.Found.{outers}
use Rattle.meta_format.specs.declared.reader.FeedFault.{FeedFault}
use Rattle.meta_format.specs.declared.reader.FeedFault.TheVariants as fault
use Rattle.plugin_core.specs.declared.item.Item.{Item}
use Rattle.block_tree.specs.declared.reason.Reason.{Reason}
use Rattle.block_tree.specs.declared.reason.Reason.TheVariants as reason
use Rattle.plugin_core.specs.declared.step.Answered.{Answered}
use Rattle.plugin_core.specs.declared.step.Answered.TheVariants as answered
use Rattle.plugin_core.specs.declared.step.Step.{Step}
use Rattle.plugin_core.specs.declared.piece.Closing.{Closing}
use Rattle.plugin_core.specs.Answers.{first_from}
use Rattle.plugin_core.specs.inside.Words.{prompt_in, default_in}
use Rattle.plugin_core.specs.Items.{answer_to, bytes_of}
use Rattle.plugin_core.specs.Kept.{InterpreterView}

-- what is returned for an output that answers the first item, or is the banner's
abbrev pub answer_first : Bool → List Item → List ℕ → Tree → Option Answered
answer_first false waiting prompt out = Some (answered.Banner out)
answer_first true [] prompt out = None
answer_first true (i ∷ is) prompt out = Some (answer_to i prompt out)

abbrev pub waiting_then : Bool → List Item → List Item
waiting_then false waiting = waiting
waiting_then true waiting = drop 1 waiting

abbrev pub ask_then : List Item → ℕ → Option ℕ
ask_then [] end = None
ask_then (i ∷ is) end = Some end

-- an answer closes with this block
pub record AnswerCloses (old new : InterpreterView) (b : Tree) (closing : Closing) : Type 0 where
  pub answered : closing.answered ≡ answer_first old.greeted old.waiting old.prompt (output b)
  pub default_input : closing.default_input ≡ default_in b
  pub waiting : new.waiting ≡ waiting_then old.greeted old.waiting
  pub ask : new.ask ≡ ask_then (waiting_then old.greeted old.waiting) old.reader.offset
  pub greeted : new.greeted ≡ true
  pub prompt : new.prompt ≡ unwrap_or (prompt_in b) old.prompt
  pub reader : new.reader ≡ old.reader
  pub over : new.over ≡ old.over

-- what is sent where an item is accepted: its bytes, where the banner has closed and nothing else waits
abbrev pub sent_for : Bool → List Item → Item → Option (List ℕ)
sent_for true [] item = Some (bytes_of item)
sent_for true (i ∷ is) item = None
sent_for false waiting item = None

-- the ask point where one more item is accepted at this length of the stream
abbrev pub ask_now : Bool → List Item → Option ℕ → ℕ → Option ℕ
ask_now true [] ask at = Some at
ask_now true (i ∷ is) ask at = ask
ask_now false waiting ask at = ask

-- an item joins those that wait
pub record Joins (old new : InterpreterView) (item : Item) (bytes : Option (List ℕ)) : Type 0 where
  pub sent : bytes ≡ sent_for old.greeted old.waiting item
  pub waiting : new.waiting ≡ old.waiting ++ item ∷ []
  pub ask : new.ask ≡ ask_now old.greeted old.waiting old.ask old.reader.offset
  pub greeted : new.greeted ≡ old.greeted
  pub prompt : new.prompt ≡ old.prompt
  pub reader : new.reader ≡ old.reader
  pub over : new.over ≡ old.over

-- the block among these that closes the answer that is awaited
abbrev pub closed_among : Option ℕ → List Outer → Option Outer
closed_among ask blocks = option_and_then (λ p. first_from p blocks) ask

abbrev pub closing_of : Step → Closing
closing_of step = record { answered = step.answered; default_input = step.default_input }

-- a piece that brought no fault
abbrev pub Passes : Option Outer → InterpreterView → InterpreterView → Step → Type 0
Passes None old new step = (new ≡ old) × (step ≡ record { answered = None; default_input = None; send = None; ended = None })
Passes (Some b) old new step = AnswerCloses old new b.block (closing_of step) × (step.send ≡ option_map bytes_of (slice_get new.waiting 0)) × (step.ended ≡ None)

abbrev pub waiting_after : Option Outer → InterpreterView → List Item
waiting_after None life = life.waiting
waiting_after (Some b) life = waiting_then life.greeted life.waiting

abbrev pub closing_by : Option Outer → InterpreterView → Closing
closing_by None life = record { answered = None; default_input = None }
closing_by (Some b) life = record { answered = answer_first life.greeted life.waiting life.prompt (output b.block); default_input = default_in b.block }

-- a piece that brought a fault
pub record Breaks (closed : Option Outer) (old new : InterpreterView) (why : Reason) (step : Step) : Type 0 where
  pub closing : closing_of step ≡ closing_by closed old
  pub send : step.send ≡ None
  pub ended : step.ended ≡ Some (record { reason = why; lost = waiting_after closed old })
  pub over : new.over ≡ true

-- a fault of the reader
abbrev pub EndsAt : FeedFault → InterpreterView → InterpreterView → Step → Type 0
EndsAt (fault.BadTag at found) old new step = Breaks (closed_among old.ask (outers found.items)) old new reason.BadTag step
EndsAt (fault.TooDeep at found) old new step = Breaks (closed_among old.ask (outers found.items)) old new reason.TooDeep step
EndsAt (fault.TooLong at found) old new step = Breaks (closed_among old.ask (outers found.items)) old new reason.TooLong step
EndsAt fault.OutOfMemory old new step = ⊥
EndsAt fault.Failed old new step = ⊥

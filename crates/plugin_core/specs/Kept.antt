-- What a life keeps, and which pasts it stands for.
use Rattle.std.specs.Prelude.{◌≡◌, ℕ, Bool, true, false, List, [], ◌∷◌, ◌++◌, length, Option, Some, None, is_some, option_to_list}
use Rattle.meta_format.specs.Limits.{limits}
use Rattle.meta_format.specs.Stream.{Outer}
use Rattle.meta_format.specs.Faults.{Kind}
use Rattle.meta_format.specs.Reader.{ReaderView, CloseWithin}
use Rattle.meta_format.specs.Reader.{ReaderHasRead}
use Rattle.plugin_core.specs.declared.item.Item.{Item}
use Rattle.plugin_core.specs.declared.step.Step.{Step}
use Rattle.plugin_core.specs.Past.{Event, accepted, received, stream_of}
use Rattle.plugin_core.specs.Answers.{answers_of, ask_of}
use Rattle.plugin_core.specs.Items.{waiting_of, prompt_of}
use Rattle.plugin_core.specs.Steps.{Reads, closed_by, sent_by, step_of}

-- what a life keeps: the reader of its stream, the ask point of the first item that waits (or of the banner), whether
-- the banner has closed, the items that wait, and the latest prompt
pub record InterpreterView : Type 0 where
  pub number : ℕ
  pub over : Bool
  pub reader : ReaderView
  pub ask : Option ℕ
  pub greeted : Bool
  pub waiting : List Item
  pub prompt : List ℕ

abbrev pub has_banner : List Outer → Bool
has_banner [] = false
has_banner (banner ∷ answers) = true

-- The reader has taken a stream that has no fault.
abbrev pub IsFed : ReaderView → Type 0
IsFed reader = (s : List ℕ) × (blocks : List Outer) × ReaderHasRead limits reader s blocks

-- The life goes on after this past, whose stream has these outer blocks and no fault.
pub record LifeHasPast (life : InterpreterView) (past : List Event) (blocks : List Outer) : Type 0 where
  pub goes_on : life.over ≡ false
  pub reader : ReaderHasRead limits life.reader (stream_of past) blocks
  pub ask : life.ask ≡ ask_of past blocks
  pub greeted : life.greeted ≡ has_banner (answers_of past blocks)
  pub waiting : life.waiting ≡ waiting_of past blocks
  pub prompt : life.prompt ≡ prompt_of past blocks

-- The life goes on where the stream has no fault, and is over else.
abbrev pub GoesOn : InterpreterView → List Event → List Outer → Option Kind → Type 0
GoesOn life past blocks None = LifeHasPast life past blocks
GoesOn life past blocks (Some kind) = life.over ≡ true

-- What an item gives that is accepted after a past whose stream has these blocks: the bytes that are sent now, if any. No answer
-- closes, the item waits after the others, and the life goes on.
pub record Accepts (past : List Event) (blocks : List Outer) (item : Item) (sent : Option (List ℕ)) (life : InterpreterView) : Type 0 where
  pub answers : answers_of (past ++ accepted item ∷ []) blocks ≡ answers_of past blocks
  pub waiting : waiting_of (past ++ accepted item ∷ []) blocks ≡ waiting_of past blocks ++ item ∷ []
  pub gives : sent ≡ sent_by past blocks (accepted item) blocks
  pub then : LifeHasPast life (past ++ accepted item ∷ []) blocks

-- What a piece gives after a past whose stream has these blocks: the answer of the definitions, and the life goes on or ends.
pub record Takes (past : List Event) (before : List Outer) (piece : List ℕ) (step : Step) (life : InterpreterView) : Type 0 where
  -- the blocks of the stream with the piece, and its fault
  pub after : List Outer
  pub fault : Option Kind
  pub reads : Reads (stream_of (past ++ received piece ∷ [])) after fault
  -- the blocks before stay, and the further ones close in this piece
  pub more : List Outer
  pub grows : after ≡ before ++ more
  pub late : CloseWithin (length (stream_of past)) (length (stream_of (past ++ received piece ∷ []))) more
  -- the answers before stay, and at most one closes
  pub answers : answers_of (past ++ received piece ∷ []) after ≡ answers_of past before ++ option_to_list (closed_by past before (received piece) after)
  pub gives : step ≡ step_of past before piece after fault
  -- an answer that closes is returned, and where none closes there is no default input and nothing is sent
  pub reported : is_some step.answered ≡ is_some (closed_by past before (received piece) after)
  pub silent : closed_by past before (received piece) after ≡ None → (step.default_input ≡ None) × (step.send ≡ None)
  pub then : GoesOn life (past ++ received piece ∷ []) after fault

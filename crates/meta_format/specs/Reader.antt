-- What a reader knows of its stream, and what its calls give.
use Rattle.std.specs.Prelude.{◌≡◌, ◌+◌, ◌<◌, ◌≤◌, ℕ, Bool, false, List, [], ◌∷◌, ◌++◌, length, Option, Some, None}
use Rattle.meta_format.specs.Limits.{Limits}
use Rattle.meta_format.specs.Stream.{Outer, Stream}
use Rattle.meta_format.specs.Faults.{Kind, bad_tag, too_deep, too_long, FirstFault, IsSound}
use Rattle.meta_format.specs.inside.Machine.{Mode, IsAlive, start_state, run}
use Rattle.meta_format.specs.Found.{outers}
use Rattle.meta_format.specs.declared.reader.FeedFault.{FeedFault}
use Rattle.meta_format.specs.declared.reader.FeedFault.TheVariants as fault

-- what a reader keeps: whether it met a fault, the bytes taken, where the open block starts, and how it goes on
pub record ReaderView : Type 0 where
  pub failed : Bool
  pub offset : ℕ
  pub pending : Option ℕ
  pub mode : Mode

-- where the open tail of the stream starts, if it has one
abbrev pub IsPending : List ℕ → List ℕ → Option ℕ → Type 0
IsPending s tail None = tail ≡ []
IsPending s tail (Some start) = (0 < length tail) × (start + length tail ≡ length s)

-- What the reader keeps stands for this stream, which has these blocks and no fault: it is all that was fed since `new`.
pub record ReaderHasRead (most : Limits) (k : ReaderView) (s : List ℕ) (blocks : List Outer) : Type 0 where
  pub works : k.failed ≡ false
  pub offset : k.offset ≡ length s
  pub tail : List ℕ
  pub stream : Stream most s blocks tail
  pub no_fault : IsSound most s
  pub pending : IsPending s tail k.pending
  -- how it goes on: this is for the proof alone
  pub state : run most start_state s ≡ record { at = k.offset; out = blocks; mode = k.mode }
  pub alive : IsAlive k.mode

-- The first of the blocks starts there, or later.
abbrev pub StartAfter : ℕ → List Outer → Type 0
StartAfter from [] = Unit {0}
StartAfter from (o ∷ os) = from ≤ o.start

-- The blocks close after the one offset and at the other or before, and each starts where the one before it has closed, or later.
abbrev pub CloseWithin : ℕ → ℕ → List Outer → Type 0
CloseWithin from to [] = Unit {0}
CloseWithin from to (o ∷ os) = (from < o.stop) × (o.stop ≤ to) × StartAfter o.stop os × CloseWithin from to os

-- The stream has its first fault there, and these are its blocks before.
pub record Faults (most : Limits) (s : List ℕ) (at : ℕ) (kind : Kind) (blocks : List Outer) : Type 0 where
  pub first : FirstFault most s at kind
  pub front : List ℕ
  pub rest : List ℕ
  pub is : s ≡ front ++ rest
  pub at_is : at ≡ length front
  pub tail : List ℕ
  pub stream : Stream most front blocks tail

-- why the piece was refused that made the stream this one, where these are the blocks of the pieces before
abbrev pub Explains : Limits → List ℕ → List Outer → FeedFault → Type 0
Explains most s blocks (fault.BadTag at found) = Faults most s at bad_tag (blocks ++ outers found.items)
Explains most s blocks (fault.TooDeep at found) = Faults most s at too_deep (blocks ++ outers found.items)
Explains most s blocks (fault.TooLong at found) = Faults most s at too_long (blocks ++ outers found.items)
Explains most s blocks fault.OutOfMemory = Unit {0}
Explains most s blocks fault.Failed = ⊥

-- the blocks that a fault hands back
abbrev pub found_before : FeedFault → List Outer
found_before (fault.BadTag at found) = outers found.items
found_before (fault.TooDeep at found) = outers found.items
found_before (fault.TooLong at found) = outers found.items
found_before fault.OutOfMemory = []
found_before fault.Failed = []

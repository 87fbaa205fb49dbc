-- What comes next in a stream that is held whole.
use Rattle.std.specs.Prelude.{◌-◌, ◌<◌, ◌≤◌, ℕ, List, [], ◌∷◌, ◌++◌, length, take, drop, Some}
use Rattle.block_tree.specs.Tree.{Tree}
use Rattle.meta_format.specs.Limits.{Limits}
use Rattle.meta_format.specs.Stream.{Outer, IsOuter, Stream}
use Rattle.meta_format.specs.Faults.{bad_tag, too_deep, too_long, IsSound}
use Rattle.meta_format.specs.Reader.{IsPending, Faults}
use Rattle.meta_format.specs.declared.ahead.Seen.{Seen}
use Rattle.meta_format.specs.declared.ahead.Seen.TheVariants as seen

-- the bytes from one offset up to another
abbrev pub part : ℕ → ℕ → List ℕ → List ℕ
part from to s = take (to - from) (drop from s)

-- Up to this offset the stream has these outer blocks, no fault, and no block that is open.
pub record IsReadTo (most : Limits) (s : List ℕ) (at : ℕ) (blocks : List Outer) : Type 0 where
  pub within : at ≤ length s
  pub stream : Stream most (take at s) blocks []
  pub sound : IsSound most (take at s)

-- This comes next in the stream, after these outer blocks: one block more, a block that is open at the end, no block
-- at all, or the first fault.
abbrev pub ComesNext : Limits → List ℕ → List Outer → Seen → Type 0
ComesNext most s blocks (seen.Outer start stop) = (b : Tree) × IsReadTo most s stop (blocks ++ record { start = start; stop = stop; block = b } ∷ []) × IsOuter most start b (part start stop s)
ComesNext most s blocks (seen.Open start) = (tail : List ℕ) × Stream most s blocks tail × IsSound most s × IsPending s tail (Some start)
ComesNext most s blocks seen.End = Stream most s blocks [] × IsSound most s
ComesNext most s blocks (seen.BadTag at) = Faults most s at bad_tag blocks
ComesNext most s blocks (seen.TooDeep at) = Faults most s at too_deep blocks
ComesNext most s blocks (seen.TooLong at) = Faults most s at too_long blocks

-- A block that is seen starts between the two offsets, and where it is whole it stops there too.
abbrev pub LiesAhead : ℕ → ℕ → Seen → Type 0
LiesAhead from to (seen.Outer start stop) = (from ≤ start) × (start < stop) × (stop ≤ to)
LiesAhead from to (seen.Open start) = (from ≤ start) × (start < to)
LiesAhead from to seen.End = Unit {0}
LiesAhead from to (seen.BadTag at) = Unit {0}
LiesAhead from to (seen.TooDeep at) = Unit {0}
LiesAhead from to (seen.TooLong at) = Unit {0}

-- What the machine finds from an offset on at which no block is open. Private contracts cite this.
use Rattle.std.specs.Prelude.{◌≡◌, ◌+◌, ◌<◌, ◌≤◌, ℕ, suc, List, length, Some}
use Rattle.block_tree.specs.Tree.{Tree}
use Rattle.meta_format.specs.Limits.{Limits}
use Rattle.meta_format.specs.Stream.{IsOuter}
use Rattle.meta_format.specs.Faults.{bad_tag, too_deep, too_long}
use Rattle.meta_format.specs.Ahead.{part}
use Rattle.meta_format.specs.inside.Machine.{Mode, outside, IsAlive, begun}
use Rattle.meta_format.specs.inside.Flat.{Takes, closed_at, ComesTo, Breaks}
use Rattle.meta_format.specs.declared.ahead.Seen.{Seen}
use Rattle.meta_format.specs.declared.ahead.Seen.TheVariants as seen

-- None of the bytes before the limit is one too many for the block that starts there. Where the stream goes on, the byte at
-- the limit is the last that the block may have.
pub record IsLimit (most : Limits) (s : List ℕ) (start limit : ℕ) : Type 0 where
  pub some : start < limit
  pub high : limit ≤ length s
  pub short : limit < most.block + start
  pub last : limit < length s → most.block + start ≤ suc limit
  pub early : length s ≤ most.stream

abbrev pub Finds : Limits → List ℕ → ℕ → Seen → Type 0
Finds most s from (seen.Outer start stop) = (b : Tree) × Takes most s from stop (closed_at start stop b) × IsOuter most start b (part start stop s)
Finds most s from (seen.Open start) = (mode : Mode) × ComesTo most s from (length s) mode × IsAlive mode × (begun mode ≡ Some start)
Finds most s from seen.End = ComesTo most s from (length s) outside
Finds most s from (seen.BadTag at) = Breaks most s from at bad_tag
Finds most s from (seen.TooDeep at) = Breaks most s from at too_deep
Finds most s from (seen.TooLong at) = Breaks most s from at too_long

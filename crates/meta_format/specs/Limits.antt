-- How much a stream of blocks may hold. (docs/use/PROTOCOL.md, limits.)
use Rattle.std.specs.Prelude.{ℕ, ◌^◌, ◌<◌}

-- how much a stream may hold
pub record Limits : Type 0 where
  -- the most bytes in the name of a tag
  pub tag : ℕ
  -- the greatest depth of an outer block
  pub levels : ℕ
  -- the most bytes of an outer block, as it is received
  pub block : ℕ
  -- the most bytes of a stream
  pub stream : ℕ

-- the limits of all streams: tags and depths are those that blocks may have
abbrev pub limits : Limits
limits = record { tag = 64; levels = 32; block = 16777216; stream = 2 ^ 62 }

-- There is room for one level, and for more than one byte.
pub record IsRoomy (most : Limits) : Type 0 where
  pub levels : 0 < most.levels
  pub block : 1 < most.block

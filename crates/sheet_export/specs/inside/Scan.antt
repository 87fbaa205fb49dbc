-- The length of a fence, found byte by byte. Private contracts cite this.
use Rattle.std.specs.Prelude.{ℕ, ◌+◌, ◌==◌, List, [], ◌∷◌, max, if◌then◌else◌}
use Rattle.sheet_export.specs.declared.fences.Fence.{Fence}

-- with a byte more
abbrev pub with_byte : Fence → ℕ → Fence
with_byte fence byte =
    if byte == 96 then record { ending = fence.ending + 1; length = max fence.length (fence.ending + 1) }
    else record { ending = 1; length = fence.length }

-- with these bytes more
abbrev pub with_bytes : Fence → List ℕ → Fence
with_bytes fence [] = fence
with_bytes fence (byte ∷ rest) = with_bytes (with_byte fence byte) rest

-- the fence of the empty text
abbrev pub shortest : Fence
shortest = record { ending = 1; length = 3 }

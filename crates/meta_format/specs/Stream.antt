-- The blocks of a stream. (docs/use/PROTOCOL.md, streams.)
use Rattle.std.specs.Prelude.{◌≡◌, ℕ, ◌+◌, ◌≤◌, ◌⊎◌, List, [], ◌∷◌, ◌++◌, length, true, not, nat_eq}
use Rattle.std.specs.List.{list_all}
use Rattle.block_tree.specs.Tree.{Tree}
use Rattle.meta_format.specs.Limits.{Limits}
use Rattle.meta_format.specs.Spelling.{Spells}

-- An outer block of a stream: the offset of its 2, the offset after its last 5, and the block.
pub record Outer : Type 0 where
  pub start : ℕ
  pub stop : ℕ
  pub block : Tree

-- any bytes but 2
abbrev pub IsNoise : List ℕ → Type 0
IsNoise s = list_all (λ c. not (nat_eq c 2)) s ≡ true

-- The bytes that stand at this offset are an outer block: they spell it, and they are no more than is allowed.
pub record IsOuter (most : Limits) (start : ℕ) (b : Tree) (s : List ℕ) : Type 0 where
  pub spelled : Spells most b s
  pub short : length s ≤ most.block
  pub early : start + length s ≤ most.stream

-- noise and outer blocks in turn, up to the end of the last block
pub data Chain (most : Limits) : List Outer → List ℕ → Type 0 where
  none : Chain most [] []
  next : {blocks : List Outer} {before : List ℕ} (noise spelling : List ℕ) (b : Tree) → Chain most blocks before → IsNoise noise
      → IsOuter most (length (before ++ noise)) b spelling
      → Chain most (blocks ++ record { start = length (before ++ noise); stop = length (before ++ noise ++ spelling); block = b } ∷ []) (before ++ noise ++ spelling)

-- Bytes that begin with 2, at this offset, and no front of which is an outer block.
pub record IsOpenTail (most : Limits) (start : ℕ) (tail : List ℕ) : Type 0 where
  pub begins : (more : List ℕ) × (tail ≡ 2 ∷ more)
  pub unfinished : (b : Tree) (front more : List ℕ) → tail ≡ front ++ more → IsOuter most start b front → ⊥

-- The stream is noise and these outer blocks in turn, and then noise, and then this open tail or nothing.
pub record Stream (most : Limits) (s : List ℕ) (blocks : List Outer) (tail : List ℕ) : Type 0 where
  pub before : List ℕ
  pub noise : List ℕ
  pub is : s ≡ before ++ noise ++ tail
  pub chain : Chain most blocks before
  pub silent : IsNoise noise
  pub rest : (tail ≡ []) ⊎ IsOpenTail most (length (before ++ noise)) tail

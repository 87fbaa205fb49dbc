-- Where a stream has a fault. (docs/use/PROTOCOL.md, faults of a stream.)
use Rattle.std.specs.Prelude.{◌≡◌, ℕ, suc, ◌-◌, ◌<◌, ◌≤◌, ◌⊎◌, true, false, List, [], ◌∷◌, ◌++◌, length}
use Rattle.std.specs.List.{list_all}
use Rattle.block_tree.specs.Tree.{Tree}
use Rattle.block_tree.specs.Shape.{is_block_within, is_tag_byte}
use Rattle.meta_format.specs.Limits.{Limits}
use Rattle.meta_format.specs.Spelling.{SpellsItems, separator, is_separator}
use Rattle.meta_format.specs.Stream.{Outer, Stream}

-- The bytes are so many open levels, one in another. Each is 2, a tag, a separator, and then texts and whole blocks: it would
-- be a block, and not too deep where it stands, if it closed here.
pub data OpenLevels (most : Limits) : ℕ → List ℕ → Type 0 where
  no_level : OpenLevels most 0 []
  one_more : {n : ℕ} (b : Tree) (outer body : List ℕ) → OpenLevels most n outer → is_block_within most.tag (most.levels - n) b ≡ true → SpellsItems b.items body
      → OpenLevels most (suc n) (outer ++ 2 ∷ (b.name ++ separator b.channel ∷ body))

-- Where an open tail ends.
pub data Place : Type 0 where
  -- in a tag, so far with this name
  in_tag : List ℕ → Place
  -- in a body, in so many levels
  in_body : ℕ → Place
  -- there, after a 27 without its second byte
  in_escape : ℕ → Place

-- The open tail ends there.
abbrev pub EndsIn : Limits → List ℕ → Place → Type 0
EndsIn most tail (in_tag name) = (n : ℕ) × (outer : List ℕ) × OpenLevels most n outer × (n < most.levels)
    × (list_all is_tag_byte name ≡ true) × (length name ≤ most.tag) × (tail ≡ outer ++ 2 ∷ name)
EndsIn most tail (in_body n) = (0 < n) × OpenLevels most n tail
EndsIn most tail (in_escape n) = (front : List ℕ) × (0 < n) × OpenLevels most n front × (tail ≡ front ++ 27 ∷ [])

-- the kinds of faults
pub data Kind : Type 0 where
  bad_tag : Kind
  too_deep : Kind
  too_long : Kind

-- After this much of a tag's name the byte is no byte of a tag, ends an empty name, or makes one that is too long.
abbrev pub IsBadTag : Limits → List ℕ → ℕ → Type 0
IsBadTag most name c = (c < 32) ⊎ ((is_separator c ≡ true) × (name ≡ [])) ⊎ ((is_separator c ≡ false) × (length name ≡ most.tag))

-- After this open tail the byte is wrong in a tag, or would open a level too many.
abbrev pub IsWrong : Limits → List ℕ → ℕ → Kind → Type 0
IsWrong most tail c bad_tag = (name : List ℕ) × EndsIn most tail (in_tag name) × IsBadTag most name c
IsWrong most tail c too_deep = EndsIn most tail (in_body most.levels) × (c ≡ 2)
IsWrong most tail c too_long = ⊥

-- The byte closes the outer block that the open tail begins.
abbrev pub Closes : Limits → List ℕ → ℕ → Type 0
Closes most tail c = EndsIn most tail (in_body 1) × (c ≡ 5)

-- After this open tail the byte at this offset is a fault. One that is too long is neither of the other faults. It is the last that a block
-- may have, without closing it, or comes after the last that a stream may have.
abbrev pub IsFault : Limits → ℕ → List ℕ → ℕ → Kind → Type 0
IsFault most at tail c bad_tag = IsWrong most tail c bad_tag
IsFault most at tail c too_deep = IsWrong most tail c too_deep
IsFault most at tail c too_long = ((kind : Kind) → IsWrong most tail c kind → ⊥)
    × (((suc (length tail) ≡ most.block) × (Closes most tail c → ⊥)) ⊎ (at ≡ most.stream))

-- The byte at this offset of the stream is a fault after the bytes before it.
pub record FaultAt (most : Limits) (s : List ℕ) (at : ℕ) (kind : Kind) : Type 0 where
  pub byte : ℕ
  pub more : List ℕ
  pub front : List ℕ
  pub blocks : List Outer
  pub tail : List ℕ
  pub is : s ≡ front ++ byte ∷ more
  pub at_is : at ≡ length front
  pub stream : Stream most front blocks tail
  pub fault : IsFault most at tail byte kind

-- The first fault of the stream.
pub record FirstFault (most : Limits) (s : List ℕ) (at : ℕ) (kind : Kind) : Type 0 where
  pub fault : FaultAt most s at kind
  pub first : (before : ℕ) (other : Kind) → before < at → FaultAt most s before other → ⊥

-- The stream has no fault.
abbrev pub IsSound : Limits → List ℕ → Type 0
IsSound most s = (at : ℕ) (kind : Kind) → FaultAt most s at kind → ⊥

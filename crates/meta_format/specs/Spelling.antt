-- Which bytes spell a block.
-- (TeXmacs manual, interfacing: formatted output; channels, prompts and default input. What 27 means before other bytes,
-- and what a tag is, is said in docs/use/PROTOCOL.md.)
use Rattle.std.specs.Prelude.{◌≡◌, ℕ, Bool, true, false, ◌||◌, nat_eq, List, [], ◌∷◌, ◌++◌}
use Rattle.block_tree.specs.Tree.{Items, Tree, end, text, block}
use Rattle.block_tree.specs.Shape.{is_block_within}
use Rattle.meta_format.specs.Limits.{Limits}

-- the bytes 2, 5 and 27: DATA_BEGIN, DATA_END and DATA_ESCAPE
abbrev pub is_special : ℕ → Bool
is_special c = nat_eq c 2 || nat_eq c 5 || nat_eq c 27

-- the byte after a tag's name: a colon for a format, and # for a channel
abbrev pub separator : Bool → ℕ
separator false = 58
separator true = 35

-- a byte that is a colon or #
abbrev pub is_separator : ℕ → Bool
is_separator c = nat_eq c 58 || nat_eq c 35

-- The bytes spell the text: a byte that is not special spells itself, and a special one follows a 27.
-- Before any other byte 27 spells itself, and so does that byte.
pub data SpellsText : List ℕ → List ℕ → Type 0 where
  nothing : SpellsText [] []
  plain : {c : ℕ} {t s : List ℕ} → is_special c ≡ false → SpellsText t s → SpellsText (c ∷ t) (c ∷ s)
  escaped : {c : ℕ} {t s : List ℕ} → is_special c ≡ true → SpellsText t s → SpellsText (c ∷ t) (27 ∷ c ∷ s)
  both : {c : ℕ} {t s : List ℕ} → is_special c ≡ false → SpellsText t s → SpellsText (27 ∷ c ∷ t) (27 ∷ c ∷ s)

-- a block with this body: 2, the name, the separator, the body, 5
abbrev pub with_body : Bool → List ℕ → List ℕ → List ℕ
with_body channel name body = 2 ∷ (name ++ separator channel ∷ (body ++ 5 ∷ []))

-- The bytes spell texts and blocks, one after another.
pub data SpellsItems : Items → List ℕ → Type 0 where
  no_item : SpellsItems end []
  text_first : {t : List ℕ} {rest : Items} (u v : List ℕ) → SpellsText t u → SpellsItems rest v → SpellsItems (text t rest) (u ++ v)
  block_first : {channel : Bool} {name : List ℕ} {inside rest : Items} (u v : List ℕ) → SpellsItems inside u → SpellsItems rest v
      → SpellsItems (block channel name inside rest) (with_body channel name u ++ v)

-- The bytes spell this block, with nothing before and nothing after it. Its tags have their lengths and bytes, it is not
-- too deep, texts that stand side by side are one, and an empty one is none.
pub record Spells (most : Limits) (b : Tree) (s : List ℕ) : Type 0 where
  pub within : is_block_within most.tag most.levels b ≡ true
  pub body : List ℕ
  pub inside : SpellsItems b.items body
  pub is : s ≡ with_body b.channel b.name body

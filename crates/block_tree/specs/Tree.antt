-- A block by its content: what stands in it, and not where it lies in memory.
-- (TeXmacs manual, interfacing: formatted output; channels, prompts and default input.)
use Rattle.std.specs.Prelude.{ℕ, Bool, List, [], ◌∷◌}

-- what stands in a block, in reading order
pub data Items : Type 0 where
  end : Items
  -- the bytes of a text, and what follows it
  text : List ℕ → Items → Items
  -- whether it is a channel, its name, what stands in it, and what follows it
  block : Bool → List ℕ → Items → Items → Items

-- a block: a format or a channel, with this name and this content
pub record Tree : Type 0 where
  pub channel : Bool
  pub name : List ℕ
  pub items : Items

-- one of the things that stand in a block
pub data Piece : Type 0 where
  text_piece : List ℕ → Piece
  block_piece : Tree → Piece

-- a piece in front of others
abbrev pub put : Piece → Items → Items
put (text_piece t) rest = text t rest
put (block_piece b) rest = block b.channel b.name b.items rest

-- pieces in a row
abbrev pub items_from : List Piece → Items
items_from [] = end
items_from (p ∷ ps) = put p (items_from ps)

-- Blocks as JSON.
use Rattle.std.specs.Prelude.{ℕ, Bool, true, false, List, codes}
use Rattle.block_tree.specs.Tree.{Tree, Piece, end, text, block, text_piece, block_piece}
use Rattle.block_tree.specs.Tree as tree
use Rattle.serde_json.specs.Data.{Data, Items, string, array, object, item, no_items, member, no_members}
use Rattle.sheet_json.specs.Bytes.{bytes_data}

-- whether a block is a channel
abbrev pub kind_name : Bool → List ℕ
kind_name true = codes "channel"
kind_name false = codes "format"

-- a block with what stands in it
abbrev pub block_object : Bool → List ℕ → Items → Data
block_object channel name inside = object (member (codes "items") (array inside) (member (codes "kind") (string (kind_name channel)) (member (codes "tag") (bytes_data name) no_members)))

-- what stands in a block: texts, and blocks
abbrev pub items_data : tree.Items → Items
items_data end = no_items
items_data (text t rest) = item (bytes_data t) (items_data rest)
items_data (block channel name inside rest) = item (block_object channel name (items_data inside)) (items_data rest)

abbrev pub tree_data : Tree → Data
tree_data b = block_object b.channel b.name (items_data b.items)

abbrev pub piece_data : Piece → Data
piece_data (text_piece t) = bytes_data t
piece_data (block_piece b) = tree_data b

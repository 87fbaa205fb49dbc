-- The tree of a node.
use Rattle.std.specs.Prelude.{◌≡◌, ℕ, List, map}
use Rattle.std.proofs.Common.{ap, sym, ◌∙◌}
use Rattle.block_tree.specs.Tree.{Tree, Piece, text_piece, block_piece, items_from}
use Rattle.block_tree.specs.declared.tree.Item.{Item, Item-F, fold-Item, fold-roll-Item}
use Rattle.block_tree.specs.declared.tree.Item.TheVariants.{Block, rolls-Block, Text, rolls-Text}
use Rattle.block_tree.specs.declared.tree.Item.TheOpen as layer
use Rattle.block_tree.specs.declared.tree.Node.{Node, Node-F, fold-Node, out-Node, roll-Node, fold-roll-Node, fold_out-Node}

abbrev pub item_step : Item-F Piece Tree → Piece
item_step (layer.Text bytes) = text_piece bytes
item_step (layer.Block t) = block_piece t

abbrev pub node_step : Node-F Piece Tree → Tree
node_step n = record { channel = n.tag.channel; name = n.tag.name; items = items_from n.items.items }

abbrev pub piece_of : Item → Piece
piece_of = fold-Item Piece Tree item_step node_step

abbrev pub tree_of : Node → Tree
tree_of = fold-Node Piece Tree item_step node_step

-- Its equations, for all that build or read nodes: the tag and the items of a node are those of its tree, a text is a text, and
-- a block in a block is its own tree.

pub tree_out : (n : Node) → tree_of n ≡ record { channel = (out-Node n).tag.channel; name = (out-Node n).tag.name; items = items_from (map piece_of (out-Node n).items.items) }
tree_out n = fold_out-Node Piece Tree item_step node_step n

pub tree_roll : (x : Node-F Item Node) → tree_of (roll-Node x) ≡ record { channel = x.tag.channel; name = x.tag.name; items = items_from (map piece_of x.items.items) }
tree_roll x = fold-roll-Node Piece Tree item_step node_step x

pub piece_text : (t : List ℕ) → piece_of (Text t) ≡ text_piece t
piece_text t = ap piece_of (sym (rolls-Text t)) ∙ fold-roll-Item Piece Tree item_step node_step (layer.Text t)

pub piece_block : (n : Node) → piece_of (Block n) ≡ block_piece (tree_of n)
piece_block n = ap piece_of (sym (rolls-Block n)) ∙ fold-roll-Item Piece Tree item_step node_step (layer.Block n)

-- What a node or an item has, by its tree.
use Rattle.std.specs.Prelude.{ℕ, Bool, true, false, ◌&&◌, nat_le, not, List, [], ◌∷◌, length, map}
use Rattle.block_tree.specs.Tree.{Tree, Piece, text_piece, block_piece}
use Rattle.block_tree.specs.View.{piece_of, tree_of}
use Rattle.block_tree.specs.inside.Marks.{Mark, letter, marks}
use Rattle.block_tree.specs.Shape.{is_tag_name, is_proper, depth, longest_tag}
use Rattle.block_tree.specs.declared.tree.Item.{Item}
use Rattle.block_tree.specs.declared.tree.Node.{Node}

abbrev pub piece_marks : Piece → List Mark
piece_marks (text_piece t) = map letter t
piece_marks (block_piece b) = marks b

unfoldable pub node_marks : Node → List Mark
node_marks n = marks (tree_of n)

unfoldable pub item_marks : Item → List Mark
item_marks x = piece_marks (piece_of x)

unfoldable pub node_depth : Node → ℕ
node_depth n = depth (tree_of n)

-- of an item: whether it is a text, and whether it is right
abbrev pub Tested : Type 0
Tested = Bool × Bool

-- the tags and texts are right, at any depth
abbrev pub tree_plain : Tree → Bool
tree_plain b = is_tag_name longest_tag b.name && is_proper longest_tag b.items

abbrev pub piece_plain : Piece → Tested
piece_plain (text_piece t) = (true, nat_le 1 (length t))
piece_plain (block_piece b) = (false, tree_plain b)

unfoldable pub is_right_node : Node → Bool
is_right_node n = tree_plain (tree_of n)

unfoldable pub is_plain_item : Item → Tested
is_plain_item x = piece_plain (piece_of x)

-- the flag says whether a text stands before
abbrev pub all_right : Bool → List Tested → Bool
all_right after [] = true
all_right after (t ∷ ts) = not (after && t.0) && t.1 && all_right t.0 ts

-- The equations of a node.
use Rattle.std.proofs.Common.{◌≡◌, ℕ, Bool, true, false, not, ◌&&◌, nat_le, length, List, [], ◌∷◌, ◌++◌, map, refl, ap, sym, ◌∙◌, append_assoc, ◌≤◌}
use Rattle.std.specs.List.{flat_map}
use Rattle.block_tree.specs.Tree.{Items, Piece, text_piece, block_piece, items_from, put}
use Rattle.block_tree.specs.View.{piece_of, tree_of, tree_out, tree_roll, piece_text, piece_block}
use Rattle.block_tree.specs.inside.Marks.{open_mark, letter, close_mark, marks_of, marks}
use Rattle.std.proofs.lemmas.Bool.{and_from, le-leb}
use Rattle.block_tree.specs.Shape.{is_tag_name, depth, is_block, longest_tag, most_levels}
use Rattle.block_tree.specs.inside.Reading.{is_right}
use Rattle.block_tree.proofs.Shapes.{right_proper}
use Rattle.block_tree.specs.inside.Nodes.{piece_marks, node_marks, item_marks, node_depth, tree_plain, piece_plain, is_right_node, is_plain_item, all_right}
use Rattle.block_tree.specs.declared.tree.Item.{Item}
use Rattle.block_tree.specs.declared.tree.Item.TheVariants.{Block, Text}
use Rattle.block_tree.specs.declared.tree.Node.{Node, Node-F, out-Node, roll-Node}

put_marks : (p : Piece) (rest : Items) → marks_of (put p rest) ≡ piece_marks p ++ marks_of rest
put_marks (text_piece t) rest = refl
put_marks (block_piece b) rest = ap (λ k. open_mark b.channel b.name ∷ k) (sym (append_assoc (marks_of b.items) (close_mark ∷ []) (marks_of rest)))

items_marks : (xs : List Item) → marks_of (items_from (map piece_of xs)) ≡ flat_map item_marks xs
unfolding item_marks
items_marks [] = refl
items_marks (x ∷ xs) = put_marks (piece_of x) (items_from (map piece_of xs)) ∙ ap (λ r. piece_marks (piece_of x) ++ r) (items_marks xs)

pub marks_roll : (x : Node-F Item Node) → node_marks (roll-Node x) ≡ open_mark x.tag.channel x.tag.name ∷ (flat_map item_marks x.items.items ++ close_mark ∷ [])
unfolding node_marks
marks_roll x = ap marks (tree_roll x) ∙ ap (λ ms. open_mark x.tag.channel x.tag.name ∷ (ms ++ close_mark ∷ [])) (items_marks x.items.items)

pub marks_out : (n : Node) → node_marks n ≡ open_mark (out-Node n).tag.channel (out-Node n).tag.name ∷ (flat_map item_marks (out-Node n).items.items ++ close_mark ∷ [])
unfolding node_marks
marks_out n = ap marks (tree_out n) ∙ ap (λ ms. open_mark (out-Node n).tag.channel (out-Node n).tag.name ∷ (ms ++ close_mark ∷ [])) (items_marks (out-Node n).items.items)

pub item_marks_text : (t : List ℕ) → item_marks (Text t) ≡ map letter t
unfolding item_marks
item_marks_text t = ap piece_marks (piece_text t)

pub item_marks_block : (n : Node) → item_marks (Block n) ≡ node_marks n
unfolding item_marks node_marks
item_marks_block n = ap piece_marks (piece_block n)

put_right : (after : Bool) (p : Piece) (rest : Items) → is_right longest_tag after (put p rest) ≡ (not (after && (piece_plain p).0) && (piece_plain p).1 && is_right longest_tag (piece_plain p).0 rest)
put_right true (text_piece t) rest = refl
put_right false (text_piece t) rest = refl
put_right true (block_piece b) rest = ap (λ q. is_tag_name longest_tag b.name && q && is_right longest_tag false rest) (right_proper longest_tag b.items)
put_right false (block_piece b) rest = ap (λ q. is_tag_name longest_tag b.name && q && is_right longest_tag false rest) (right_proper longest_tag b.items)

items_plain : (after : Bool) (xs : List Item) → is_right longest_tag after (items_from (map piece_of xs)) ≡ all_right after (map is_plain_item xs)
unfolding is_plain_item
items_plain after [] = refl
items_plain after (x ∷ xs) = put_right after (piece_of x) (items_from (map piece_of xs))
    ∙ ap (λ r. not (after && (piece_plain (piece_of x)).0) && (piece_plain (piece_of x)).1 && r) (items_plain (piece_plain (piece_of x)).0 xs)

pub plain_roll : (x : Node-F Item Node) → is_right_node (roll-Node x) ≡ (is_tag_name longest_tag x.tag.name && all_right false (map is_plain_item x.items.items))
unfolding is_right_node
plain_roll x = ap tree_plain (tree_roll x) ∙ ap (λ r. is_tag_name longest_tag x.tag.name && r) (sym (right_proper longest_tag (items_from (map piece_of x.items.items))) ∙ items_plain false x.items.items)

pub plain_out : (n : Node) → is_right_node n ≡ (is_tag_name longest_tag (out-Node n).tag.name && all_right false (map is_plain_item (out-Node n).items.items))
unfolding is_right_node
plain_out n = ap tree_plain (tree_out n) ∙ ap (λ r. is_tag_name longest_tag (out-Node n).tag.name && r) (sym (right_proper longest_tag (items_from (map piece_of (out-Node n).items.items))) ∙ items_plain false (out-Node n).items.items)

pub plain_item_text : (t : List ℕ) → is_plain_item (Text t) ≡ (true, nat_le 1 (length t))
unfolding is_plain_item
plain_item_text t = ap piece_plain (piece_text t)

pub plain_item_block : (n : Node) → is_plain_item (Block n) ≡ (false, is_right_node n)
unfolding is_plain_item is_right_node
plain_item_block n = ap piece_plain (piece_block n)

pub tree_marks : (n : Node) → marks (tree_of n) ≡ node_marks n
unfolding node_marks
tree_marks n = refl

pub block_from : (n : Node) → is_right_node n ≡ true → node_depth n ≤ most_levels → is_block (tree_of n) ≡ true
unfolding is_right_node node_depth
block_from n p h = and_from (tree_plain (tree_of n)) (nat_le (depth (tree_of n)) most_levels) p (le-leb (depth (tree_of n)) most_levels h)

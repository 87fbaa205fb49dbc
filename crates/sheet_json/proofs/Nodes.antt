-- Blocks, item by item.
use Rattle.std.proofs.Common.{◌≡◌, ℕ, List, [], ◌∷◌, map, take, length, ◌≤◌, refl, ap, sym, ◌∙◌}
use Rattle.block_tree.specs.Tree.{Piece, text_piece, block_piece, items_from, put}
use Rattle.block_tree.specs.View.{piece_of, tree_of, piece_text, piece_block, tree_out}
use Rattle.block_tree.specs.declared.tree.Item.{Item}
use Rattle.block_tree.specs.declared.tree.Node.{Node, out-Node}
use Rattle.serde_json.specs.Data.{Data, item}
use Rattle.serde_json.specs.View.{items_of, items_view}
use Rattle.serde_json.specs.declared.value.Value.{Value}
use Rattle.sheet_json.specs.Blocks.{block_object, items_data, tree_data, piece_data}
use Rattle.sheet_json.proofs.Lists.{AreOf, all_of, one_more}

put_data : (p : Piece) (ps : List Piece) → items_data (put p (items_from ps)) ≡ item (piece_data p) (items_data (items_from ps))
put_data (text_piece t) ps = refl
put_data (block_piece b) ps = refl

items_each : (xs : List Item) → items_data (items_from (map piece_of xs)) ≡ items_of (map (λ x. piece_data (piece_of x)) xs)
items_each [] = refl
items_each (x ∷ xs) = put_data (piece_of x) (map piece_of xs) ∙ ap (item (piece_data (piece_of x))) (items_each xs)

tree_data_out : (n : Node) → tree_data (tree_of n) ≡ block_object (out-Node n).tag.channel (out-Node n).tag.name (items_of (map (λ x. piece_data (piece_of x)) (out-Node n).items.items))
tree_data_out n = ap tree_data (tree_out n) ∙ ap (block_object (out-Node n).tag.channel (out-Node n).tag.name) (items_each (out-Node n).items.items)

-- these values are those of these items
abbrev pub Made : List Value → List Item → Type 0
Made values xs = AreOf (λ x. piece_data (piece_of x)) values xs

-- a node whose items were all made
pub node_made : (n : Node) (values : List Value) (xs : List Item) (i : ℕ) (d : Data) → length xs ≤ i → xs ≡ (out-Node n).items.items → Made values (take i xs)
    → d ≡ block_object (out-Node n).tag.channel (out-Node n).tag.name (items_view values) → d ≡ tree_data (tree_of n)
node_made n values xs i d h e w is =
    is
    ∙ ap (block_object (out-Node n).tag.channel (out-Node n).tag.name) (all_of (λ x. piece_data (piece_of x)) values xs i h w ∙ ap (λ ys. items_of (map (λ x. piece_data (piece_of x)) ys)) e)
    ∙ sym (tree_data_out n)

pub ruleset node_steps = (one_more, piece_text, piece_block)

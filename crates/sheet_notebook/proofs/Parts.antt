-- Outputs of a cell, one after another.
use Rattle.std.proofs.Common.{◌≡◌, Bool, false, List, [], ◌∷◌, ◌++◌, flat_map, map, length, refl, ap, sym, ◌∙◌, append_assoc, append-nil, arith}
use Rattle.std.specs.Prelude.{◌||◌}
use Rattle.std.specs.List.{list_any}
use Rattle.std.proofs.lemmas.List.{map-append}
use Rattle.std.proofs.lemmas.List.Folds.{list_any-append}
use Rattle.block_tree.specs.Tree.{Piece, block_piece, items_from, text_piece}
use Rattle.block_tree.specs.View.{piece_of, tree_of, tree_out, piece_text, piece_block}
use Rattle.block_tree.specs.declared.tree.Item.{Item}
use Rattle.block_tree.specs.declared.tree.Node.{Node, out-Node}
use Rattle.serde_json.specs.View.{items_of, items_view, view}
use Rattle.serde_json.specs.Data.{Data}
use Rattle.serde_json.specs.declared.value.Value.{Value}
use Rattle.sheet_notebook.specs.Notebook.{is_own_part, part_output}
use Rattle.sheet_notebook.specs.Parts.{Part, parts_at, parts_in, output_parts, pieces}
use Rattle.sheet_notebook.specs.Pictures.{is_output_tag}
use Rattle.sheet_notebook.specs.inside.Outputs.{AddsOutputs}

pieces_from : (ps : List Piece) → pieces (items_from ps) ≡ ps
pieces_from [] = refl
pieces_from (text_piece t ∷ ps) = ap (λ rest. text_piece t ∷ rest) (pieces_from ps)
pieces_from (block_piece b ∷ ps) = ap (λ rest. block_piece b ∷ rest) (pieces_from ps)

-- what stands in a node
pub pieces_out : (n : Node) → pieces (tree_of n).items ≡ map piece_of (out-Node n).items.items
pieces_out n = ap (λ t. pieces t.items) (tree_out n) ∙ pieces_from (map piece_of (out-Node n).items.items)

-- the parts of these items of an output
abbrev pub parts_ahead : Bool → List Item → List Part
parts_ahead in_output xs = flat_map (parts_at in_output) (map piece_of xs)

parts_out : (n : Node) → output_parts (tree_of n) ≡ parts_ahead (is_output_tag (out-Node n).tag.channel (out-Node n).tag.name) (out-Node n).items.items
parts_out n = ap (λ t. flat_map (parts_at (is_output_tag t.channel t.name)) (pieces t.items)) (tree_out n)
    ∙ ap (flat_map (parts_at (is_output_tag (out-Node n).tag.channel (out-Node n).tag.name))) (pieces_from (map piece_of (out-Node n).items.items))

-- whether one of them is an output of its own says whether a part of the node is
abbrev pub Decides : Node → Bool → List Item → Type 0
Decides n in_output ahead = list_any is_own_part (parts_ahead in_output ahead) ≡ list_any is_own_part (output_parts (tree_of n))

pub decides_first : (n : Node) (in_output : Bool) (ahead : List Item) → ahead ≡ (out-Node n).items.items → in_output ≡ is_output_tag (out-Node n).tag.channel (out-Node n).tag.name → Decides n in_output ahead
decides_first n in_output ahead e o = ap (list_any is_own_part) (ap (λ t. parts_ahead t ahead) o ∙ ap (parts_ahead (is_output_tag (out-Node n).tag.channel (out-Node n).tag.name)) e ∙ sym (parts_out n))

pub own_ahead : (in_output : Bool) (item : Item) (others : List Item) → list_any is_own_part (parts_ahead in_output (item ∷ others)) ≡ (list_any is_own_part (parts_at in_output (piece_of item)) || list_any is_own_part (parts_ahead in_output others))
own_ahead in_output item others = list_any-append is_own_part (parts_at in_output (piece_of item)) (parts_ahead in_output others)

-- a front that holds none leaves it to the rest, and no rest holds one
pub none_ahead : (in_output : Bool) (ahead : List Item) (found : Bool) → length ahead ≡ 0 → list_any is_own_part (parts_in in_output (map piece_of ahead)) ≡ found → false ≡ found
none_ahead in_output [] found e w = w
none_ahead in_output (item ∷ others) found e w = absurd (omega (arith, e))

pub none_decided : (n : Node) (in_output : Bool) (ahead : List Item) → length ahead ≡ 0 → Decides n in_output ahead → false ≡ list_any is_own_part (output_parts (tree_of n))
none_decided n in_output [] e w = w
none_decided n in_output (item ∷ others) e w = absurd (omega (arith, e))

map_more : (values : List Value) (value : Value) → map view (values ++ value ∷ []) ≡ map view values ++ view value ∷ []
map_more [] value = refl
map_more (v ∷ values) value = ap (λ t. view v ∷ t) (map_more values value)

pub adds_one : (old new : List Value) (value : Value) (p : Part) → new ≡ old ++ value ∷ [] → view value ≡ part_output p → AddsOutputs old new (p ∷ [])
adds_one old new value p grown is = ap (map view) grown ∙ map_more old value ∙ ap (λ d. map view old ++ d ∷ []) is

-- these values, and these parts that are to come, are those outputs
abbrev pub Made : List Value → List Part → List Data → Type 0
Made values ahead made = map view values ++ map part_output ahead ≡ made

made_more : (old new : List Value) (ps ahead : List Part) (made : List Data) → Made old (ps ++ ahead) made → AddsOutputs old new ps → Made new ahead made
made_more old new ps ahead made w added =
    ap (λ t. t ++ map part_output ahead) added
    ∙ append_assoc (map view old) (map part_output ps) (map part_output ahead)
    ∙ ap (λ t. map view old ++ t) (sym (map-append part_output ps ahead))
    ∙ w

pub part_made : (in_output : Bool) (old new : List Value) (value : Value) (item : Item) (ahead others : List Item) (made : List Data) → ahead ≡ item ∷ others → Made old (parts_in in_output (map piece_of ahead)) made
    → view value ≡ part_output (in_output, piece_of item) → new ≡ old ++ value ∷ [] → Made new (parts_in in_output (map piece_of others)) made
part_made in_output old new value item ahead others made e w is grown =
    made_more old new ((in_output, piece_of item) ∷ []) (parts_in in_output (map piece_of others)) made (ap (λ t. map view old ++ map part_output (parts_in in_output (map piece_of t))) (sym e) ∙ w)
    (adds_one old new value (in_output, piece_of item) grown is)

pub parts_made : (in_output : Bool) (old new : List Value) (ahead all : List Item) → length ahead ≡ 0 → Made new (parts_in in_output (map piece_of ahead)) (map view old ++ map part_output (parts_in in_output (map piece_of all)))
    → AddsOutputs old new (parts_in in_output (map piece_of all))
parts_made in_output old new [] all e w = sym (append-nil (map view new)) ∙ w
parts_made in_output old new (item ∷ others) all e w = absurd (omega (arith, e))

pub item_made : (in_output : Bool) (old new : List Value) (item : Item) (ahead others : List Item) (made : List Data) → ahead ≡ item ∷ others → Made old (parts_ahead in_output ahead) made
    → AddsOutputs old new (parts_at in_output (piece_of item)) → Made new (parts_ahead in_output others) made
item_made in_output old new item ahead others made e w added =
    made_more old new (parts_at in_output (piece_of item)) (parts_ahead in_output others) made (ap (λ t. map view old ++ map part_output (parts_ahead in_output t)) (sym e) ∙ w) added

pub made_first : (n : Node) (in_output : Bool) (ahead : List Item) → ahead ≡ (out-Node n).items.items → in_output ≡ is_output_tag (out-Node n).tag.channel (out-Node n).tag.name
    → Made [] (parts_ahead in_output ahead) (map part_output (output_parts (tree_of n)))
made_first n in_output ahead e o = ap (map part_output) (ap (λ t. parts_ahead t ahead) o ∙ ap (parts_ahead (is_output_tag (out-Node n).tag.channel (out-Node n).tag.name)) e ∙ sym (parts_out n))

pub all_made : (in_output : Bool) (values : List Value) (ahead : List Item) (made : List Data) → length ahead ≡ 0 → Made values (parts_ahead in_output ahead) made → items_view values ≡ items_of made
all_made in_output values [] made e w = ap items_of (sym (append-nil (map view values)) ∙ w)
all_made in_output values (item ∷ others) made e w = absurd (omega (arith, e))

pub ruleset part_steps = (pieces_out, own_ahead, decides_first, none_ahead, none_decided, adds_one, part_made, parts_made, item_made, made_first, all_made, tree_out, piece_text, piece_block)

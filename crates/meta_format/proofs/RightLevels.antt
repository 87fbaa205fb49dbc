-- Levels stay right.
use Rattle.std.proofs.lemmas.Grind.{flat_map-append}
use Rattle.std.proofs.Common.{ℕ, append_assoc, append-nil, flat_map}
use Rattle.block_tree.specs.inside.Marks.{letter}
use Rattle.block_tree.specs.inside.Nodes.{item_marks, node_marks}
use Rattle.block_tree.specs.declared.tree.Item.{Item}
use Rattle.block_tree.specs.declared.tree.Item.TheVariants.{Text, Block}
use Rattle.block_tree.specs.declared.tree.Node.{Node}
use Rattle.std.proofs.Common.{◌≡◌, ℕ, Bool, true, not, ◌&&◌, List, [], ◌∷◌, ◌++◌, map, refl, ap, ◌∙◌}
use Rattle.std.proofs.lemmas.Bool.{and_parts, and_from}
use Rattle.std.proofs.lemmas.List.{map-append}
use Rattle.block_tree.specs.inside.Nodes.{Tested, all_right}
use Rattle.block_tree.proofs.Trees.{item_marks_text, item_marks_block, plain_roll, plain_out, plain_item_text, plain_item_block}
use Rattle.meta_format.specs.inside.Levels.{ends_in_text}

pub all_right-push : (after : Bool) (ts : List Tested) (t : Tested) → all_right after ts ≡ true → not (ends_in_text after ts && t.0) ≡ true → t.1 ≡ true → all_right after (ts ++ t ∷ []) ≡ true
all_right-push after [] t h k m = and_from _ _ (and_from _ _ k m) refl
all_right-push after (u ∷ ts) t h k m =
    let parts = and_parts (not (after && u.0) && u.1) (all_right u.0 ts) h in
    and_from _ _ parts.0 (all_right-push u.0 ts t parts.1 k m)

pub ends_in_text-push : (after : Bool) (ts : List Tested) (t : Tested) → ends_in_text after (ts ++ t ∷ []) ≡ t.0
ends_in_text-push after [] t = refl
ends_in_text-push after (u ∷ ts) t = ends_in_text-push u.0 ts t

pub pushed_text : (xs : List Item) (t : List ℕ) → flat_map item_marks (xs ++ Text t ∷ []) ≡ flat_map item_marks xs ++ map letter t
pushed_text xs t = flat_map-append item_marks xs (Text t ∷ []) ∙ ap (λ r. flat_map item_marks xs ++ r) (append-nil (item_marks (Text t)) ∙ item_marks_text t)

pub pushed_block : (xs : List Item) (n : Node) → flat_map item_marks (xs ++ Block n ∷ []) ≡ flat_map item_marks xs ++ node_marks n
pushed_block xs n = flat_map-append item_marks xs (Block n ∷ []) ∙ ap (λ r. flat_map item_marks xs ++ r) (append-nil (item_marks (Block n)) ∙ item_marks_block n)

pub ruleset level_rules = (pushed_text, pushed_block, append_assoc, append-nil, all_right-push, ends_in_text-push, map-append, plain_roll, plain_out, plain_item_text, plain_item_block)

-- The canonical spelling, item by item.
use Rattle.std.proofs.Common.{◌≡◌, ℕ, ◌+◌, true, List, [], ◌∷◌, ◌++◌, length, take, refl, ap, ◌∙◌, append_assoc, append-nil}
use Rattle.std.proofs.lemmas.Bool.{cond_both}
use Rattle.std.specs.List.{flat_map}
use Rattle.block_tree.specs.Tree.{Items, Tree, end, text, block}
use Rattle.block_tree.specs.Shape.{is_block_within}
use Rattle.block_tree.specs.View.{piece_text, piece_block, tree_out}
use Rattle.meta_format.specs.Limits.{Limits}
use Rattle.meta_format.specs.Spelling.{is_special, SpellsText, nothing, plain, escaped, SpellsItems, no_item, text_first, block_first, Spells}
use Rattle.meta_format.specs.Canonical.{escape, canonical_items, canonical}

-- bytes that were there stay in front

pub kept_more : (a b : List ℕ) → take (length a) (a ++ b) ≡ a
kept_more [] b = refl
kept_more (x ∷ a) b = ap (λ r. x ∷ r) (kept_more a b)

-- also where more was written in two steps
pub kept_then : (a b c : List ℕ) → take (length a) b ≡ a → take (length b) c ≡ b → take (length a) c ≡ a
kept_then [] b c h k = refl
kept_then (x ∷ a) [] c h k = let no : [] ≡ x ∷ a = h in cc
kept_then (x ∷ a) (y ∷ b) [] h k = let no : [] ≡ y ∷ b = k in cc
kept_then (x ∷ a) (y ∷ b) (z ∷ c) h k =
    let one : y ≡ x = cc in
    let two : z ≡ y = cc in
    let rest : take (length a) b ≡ a = cc in
    let more : take (length b) c ≡ b = cc in
    ap (λ w. w ∷ take (length a) c) (two ∙ one) ∙ ap (λ r. x ∷ r) (kept_then a b c rest more)

pub ruleset keep_rules = (kept_more, kept_then, append_assoc, append-nil)

pub ruleset write_rules = (kept_more, kept_then, append_assoc, append-nil, tree_out, piece_text, piece_block)

-- the canonical spelling is one

canonical_text : (t : List ℕ) → SpellsText t (flat_map escape t)
canonical_text [] = nothing
canonical_text (c ∷ t) =
    cond_both (is_special c) (27 ∷ c ∷ []) (c ∷ []) (λ u. SpellsText (c ∷ t) (u ++ flat_map escape t)) (λ e. escaped e (canonical_text t)) (λ e. plain e (canonical_text t))

items_spelled : (x : Items) → SpellsItems x (canonical_items x)
items_spelled end = no_item
items_spelled (text t rest) = text_first (flat_map escape t) (canonical_items rest) (canonical_text t) (items_spelled rest)
items_spelled (block channel name inside rest) = block_first (canonical_items inside) (canonical_items rest) (items_spelled inside) (items_spelled rest)

pub canonical_spells : (most : Limits) (b : Tree) → is_block_within most.tag most.levels b ≡ true → Spells most b (canonical b)
canonical_spells most b h = record { within = h; body = canonical_items b.items; inside = items_spelled b.items; is = refl }

-- A block without prompts and default inputs is its own output.
use Rattle.std.proofs.Common.{◌≡◌, ℕ, Bool, true, false, not, ◌&&◌, ◌||◌, nat_le, cond, length, List, refl, ap, ap₂, sym, ◌∙◌}
use Rattle.std.proofs.lemmas.Bool.{and_parts, false≢true}
use Rattle.block_tree.specs.Tree.{Items, Tree, end, text, block}
use Rattle.block_tree.specs.Output.{output, output_items, is_aside, join}
use Rattle.block_tree.specs.inside.Words.{no_output}
use Rattle.block_tree.specs.Shape.{is_proper, begins_with_text, is_block, is_tag_name, depth, longest_tag, most_levels}
use Rattle.block_tree.specs.inside.Asides.{has_aside}

neither : (a b : Bool) → (a || b) ≡ false → (a ≡ false) × (b ≡ false)
neither true b h = absurd (false≢true (sym h))
neither false b h = (refl, h)

not_true : (a : Bool) → not a ≡ true → a ≡ false
not_true true h = sym h
not_true false h = refl

in_front : (t : List ℕ) (x : Items) → begins_with_text x ≡ false → join t x ≡ text t x
in_front t end h = refl
in_front t (text u rest) h = absurd (false≢true (sym h))
in_front t (block c n i rest) h = refl

own_items : (most : ℕ) (x : Items) → is_proper most x ≡ true → has_aside x ≡ false → output_items x ≡ x
own_items most end h k = refl
own_items most (text t rest) h k =
    let p = and_parts (nat_le 1 (length t) && not (begins_with_text rest)) (is_proper most rest) h in
    let q = and_parts (nat_le 1 (length t)) (not (begins_with_text rest)) p.0 in
    ap (join t) (own_items most rest p.1 k) ∙ in_front t rest (not_true (begins_with_text rest) q.1)
own_items most (block c n i rest) h k =
    let p = and_parts (is_tag_name most n && is_proper most i) (is_proper most rest) h in
    let q = and_parts (is_tag_name most n) (is_proper most i) p.0 in
    let a = neither (is_aside c n || has_aside i) (has_aside rest) k in
    let b = neither (is_aside c n) (has_aside i) a.0 in
    ap (λ v. cond v (output_items rest) (block c n (output_items i) (output_items rest))) b.0
    ∙ ap₂ (block c n) (own_items most i q.1 b.1) (own_items most rest p.1 a.1)

pub own_output : (b : Tree) → is_block b ≡ true → (is_aside b.channel b.name || has_aside b.items) ≡ false → output b ≡ b
own_output b h k =
    let p = and_parts (is_tag_name longest_tag b.name && is_proper longest_tag b.items) (nat_le (depth b) most_levels) h in
    let q = and_parts (is_tag_name longest_tag b.name) (is_proper longest_tag b.items) p.0 in
    let a = neither (is_aside b.channel b.name) (has_aside b.items) k in
    ap (λ v. cond v no_output (record { channel = b.channel; name = b.name; items = output_items b.items })) a.0
    ∙ ap (λ v. record { channel = b.channel; name = b.name; items = v }) (own_items longest_tag b.items q.1 a.1)

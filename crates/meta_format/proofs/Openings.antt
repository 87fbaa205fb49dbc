-- Levels that are open.
use Rattle.std.proofs.Common.{◌≡◌, ℕ, zero, suc, ◌+◌, ◌<◌, ◌≤◌, Bool, true, List, [], ◌∷◌, ◌++◌, map, refl, sym, ap, ◌∙◌, subst, arith, append_assoc}
use Rattle.block_tree.specs.Tree.{Items, Tree, end, text, block}
use Rattle.block_tree.specs.inside.Marks.{Mark, open_mark, letter, close_mark, marks_of, marks}
use Rattle.block_tree.specs.inside.Nodes.{node_marks, node_depth, is_right_node}
use Rattle.block_tree.specs.Shape.{is_block, levels, depth, longest_tag, most_levels}
use Rattle.block_tree.specs.View.{tree_of}
use Rattle.block_tree.proofs.Trees.{block_from, tree_marks}
use Rattle.block_tree.specs.declared.tree.Node.{Node}
use Rattle.meta_format.specs.inside.Rows.{Leads, Begins, IsOpen}
use Rattle.block_tree.specs.inside.Marks.{tree_from}
use Rattle.meta_format.specs.inside.Levels.{AreOpen}
use Rattle.meta_format.proofs.Leading.{Begins-append, open_more, IsOpen-from_Begins, Begins-from_IsOpen}
use Rattle.block_tree.proofs.Rebuilt.{tree_from_marks}

-- marks that lead on are those of items that are not too deep

letters_leave : (most d : ℕ) (t : List ℕ) (rest : List Mark) (e : ℕ) → Leads most (suc d) (map letter t ++ rest) e → Leads most (suc d) rest e
letters_leave most d [] rest e l = l
letters_leave most d (c ∷ t) rest e l = letters_leave most d t rest e l

items_fit : (most : ℕ) (x : Items) (d : ℕ) (rest : List Mark) (e : ℕ) → suc d ≤ most → Leads most (suc d) (marks_of x ++ rest) e → (levels x + suc d ≤ most) × Leads most (suc d) rest e
items_fit most end d rest e h l = (omega arith, l)
items_fit most (text t x) d rest e h l =
    items_fit most x d rest e h (letters_leave most d t (marks_of x ++ rest) e (subst (λ ms. Leads most (suc d) ms e) (append_assoc (map letter t) (marks_of x) rest) l))
items_fit most (block c n i x) d rest e h l =
    let less = l.0 in
    let inside = items_fit most i (suc d) (close_mark ∷ (marks_of x ++ rest)) e less (subst (λ ms. Leads most (suc (suc d)) ms e) (append_assoc (marks_of i) (close_mark ∷ marks_of x) rest) l.1) in
    let following = items_fit most x d rest e h inside.1 in
    let high = inside.0 in
    let higher = following.0 in
    (omega arith, following.1)

depth_from_begins : (most : ℕ) (b : Tree) → Begins most (marks b) 0 → depth b ≤ most
depth_from_begins most b o =
    let some = o.0 in
    let inside = items_fit most b.items 0 (close_mark ∷ []) 0 some o.1 in
    let high = inside.0 in
    omega arith

pub open_letter : (most d c : ℕ) (ms ns : List Mark) → ns ≡ ms ++ letter c ∷ [] → 0 < d → AreOpen most ms d → AreOpen most ns d
open_letter most zero c ms ns e h o = absurd (omega arith)
open_letter most (suc d) c ms ns e h o = record {
  open_marks = subst (λ xs. IsOpen most xs (suc d)) (sym e) (IsOpen-from_Begins most d (ms ++ letter c ∷ []) (Begins-append most (suc d) (suc d) ms (letter c ∷ []) (Begins-from_IsOpen most d ms o.open_marks) refl));
  few = o.few;
}

pub open_tag : (most d f : ℕ) (channel : Bool) (name : List ℕ) (ms ns : List Mark) → ns ≡ ms ++ open_mark channel name ∷ [] → f ≡ d + 1 → d < most → AreOpen most ms d → AreOpen most ns f
open_tag most d f channel name ms ns e g h o =
    let made : AreOpen most (ms ++ open_mark channel name ∷ []) (suc d) = record {
      open_marks = IsOpen-from_Begins most d (ms ++ open_mark channel name ∷ []) (open_more most d channel name ms o.open_marks h);
      few = omega arith;
    } in
    let same : suc d ≡ f = omega arith in
    subst (λ n. AreOpen most ns n) same (subst (λ xs. AreOpen most xs (suc d)) (sym e) made)

pub open_end : (most d f : ℕ) (ms ns : List Mark) → ns ≡ ms ++ close_mark ∷ [] → f + 1 ≡ d → 1 ≤ f → AreOpen most ms d → AreOpen most ns f
open_end most zero f ms ns e g h o = absurd (omega arith)
open_end most (suc d) zero ms ns e g h o = absurd (omega arith)
open_end most (suc d) (suc f) ms ns e g h o =
    let same : d ≡ suc f = omega arith in
    let few = o.few in
    let whole = subst (λ n. Begins most ms (suc n)) same (Begins-from_IsOpen most d ms o.open_marks) in
    record {
      open_marks = subst (λ xs. IsOpen most xs (suc f)) (sym e) (IsOpen-from_Begins most f (ms ++ close_mark ∷ []) (Begins-append most (suc (suc f)) (suc f) ms (close_mark ∷ []) whole refl));
      few = omega arith;
    }

depth_of : (n : Node) (k : ℕ) → depth (tree_of n) ≤ k → node_depth n ≤ k
unfolding node_depth
depth_of n k h = h

pub block_made : (n : Node) (d : ℕ) (ms : List Mark) → node_marks n ≡ ms ++ close_mark ∷ [] → d ≡ 1 → AreOpen most_levels ms d → is_right_node n ≡ true → is_block (tree_of n) ≡ true
block_made n d ms e g o p =
    let one = subst (λ k. AreOpen most_levels ms k) g o in
    let whole = subst (λ xs. Begins most_levels xs 0) (sym (tree_marks n ∙ e)) (Begins-append most_levels 1 0 ms (close_mark ∷ []) (Begins-from_IsOpen most_levels 0 ms one.open_marks) refl) in
    block_from n p (depth_of n most_levels (depth_from_begins most_levels (tree_of n) whole))

pub tree_made : (n : Node) (ms : List Mark) → is_block (tree_of n) ≡ true → node_marks n ≡ ms → tree_from ms ≡ tree_of n
tree_made n ms h e = ap tree_from (sym (tree_marks n ∙ e)) ∙ tree_from_marks longest_tag most_levels (tree_of n) h

pub none_open : (most d : ℕ) (ms : List Mark) → ms ≡ [] → d ≡ 0 → AreOpen most ms d
none_open most d ms e g = record { open_marks = subst (λ xs. IsOpen most xs d) (sym e) g; few = omega arith }

pub ruleset open_rules = (tree_made, tree_marks, open_letter, open_tag, open_end, block_made, none_open)

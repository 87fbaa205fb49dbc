-- The last level of a stack.
use Rattle.std.proofs.Common.{◌≡◌, ℕ, zero, suc, ◌+◌, ◌-◌, List, [], ◌∷◌, ◌++◌, length, get_or, set, ap, sym, ◌∙◌, append_assoc, append-nil, arith}
use Rattle.block_tree.proofs.Trees.{marks_roll, marks_out, item_marks_text, item_marks_block}
use Rattle.std.specs.List.{flat_map}

-- a list whose last element got more at its end
pub flat_map-set_last : {X A : Type 0} (f : X → List A) (xs : List X) (i : ℕ) (y d : X) (more : List A) → i + 1 ≡ length xs → f y ≡ f (get_or xs i d) ++ more
    → flat_map f (set xs i y) ≡ flat_map f xs ++ more
flat_map-set_last f [] i y d more e h = absurd (omega arith)
flat_map-set_last f (x ∷ []) zero y d more e h = append-nil (f y) ∙ h ∙ ap (λ z. z ++ more) (sym (append-nil (f x)))
flat_map-set_last f (x ∷ []) (suc i) y d more e h = absurd (omega arith)
flat_map-set_last f (x ∷ z ∷ xs) zero y d more e h = absurd (omega arith)
flat_map-set_last f (x ∷ z ∷ xs) (suc i) y d more e h =
    ap (λ ys. f x ++ ys) (flat_map-set_last f (z ∷ xs) i y d more (omega arith) h) ∙ sym (append_assoc (f x) (flat_map f (z ∷ xs)) more)

pub ruleset tree_rules = (marks_roll, marks_out, item_marks_text, item_marks_block, append_assoc, append-nil)

-- The marks of a block give its tree again.
use Rattle.std.proofs.Common.{◌≡◌, ℕ, true, not, ◌&&◌, nat_le, length, List, [], ◌∷◌, ◌++◌, map, refl, ap, sym, ◌∙◌, append_assoc, arith}
use Rattle.std.proofs.lemmas.Bool.{and_parts, false≢true, le-leb}
use Rattle.block_tree.specs.Tree.{Items, Tree, end, text, block}
use Rattle.block_tree.specs.inside.Code.{with_block}
use Rattle.block_tree.specs.Shape.{is_proper, begins_with_text, is_block_within, is_tag_name, depth}
use Rattle.block_tree.specs.inside.Marks.{Mark, letter, close_mark, marks_of, marks, letter_before, rebuilt, first_tree, tree_from}

rebuilt-letters : (t : List ℕ) (rest : Items) (k : List Mark) (st : List Items) → nat_le 1 (length t) ≡ true → not (begins_with_text rest) ≡ true → rebuilt k ≡ rest ∷ st
    → rebuilt (map letter t ++ k) ≡ text t rest ∷ st
rebuilt-letters [] rest k st h r e = absurd (false≢true h)
rebuilt-letters (c ∷ []) end k st h r e = ap (letter_before c) e
rebuilt-letters (c ∷ []) (text u rest) k st h r e = absurd (false≢true r)
rebuilt-letters (c ∷ []) (block d n i rest) k st h r e = ap (letter_before c) e
rebuilt-letters (c ∷ d ∷ t) rest k st h r e = ap (letter_before c) (rebuilt-letters (d ∷ t) rest k st (le-leb 1 (length (d ∷ t)) (omega arith)) r e)

rebuilt-marks : (most : ℕ) (x : Items) (ms : List Mark) (st : List Items) → is_proper most x ≡ true → rebuilt ms ≡ end ∷ st → rebuilt (marks_of x ++ ms) ≡ x ∷ st
rebuilt-marks most end ms st r e = e
rebuilt-marks most (text t rest) ms st r e =
    let p = and_parts (nat_le 1 (length t) && not (begins_with_text rest)) (is_proper most rest) r in
    let q = and_parts (nat_le 1 (length t)) (not (begins_with_text rest)) p.0 in
    ap rebuilt (append_assoc (map letter t) (marks_of rest) ms) ∙ rebuilt-letters t rest (marks_of rest ++ ms) st q.0 q.1 (rebuilt-marks most rest ms st p.1 e)
rebuilt-marks most (block c n i rest) ms st r e =
    let p = and_parts (is_tag_name most n && is_proper most i) (is_proper most rest) r in
    let q = and_parts (is_tag_name most n) (is_proper most i) p.0 in
    ap (λ k. with_block c n (rebuilt k)) (append_assoc (marks_of i) (close_mark ∷ marks_of rest) ms)
    ∙ ap (with_block c n) (rebuilt-marks most i (close_mark ∷ (marks_of rest ++ ms)) (rest ∷ st) q.1 (ap (λ k. end ∷ k) (rebuilt-marks most rest ms st p.1 e)))

pub tree_from_marks : (tag deep : ℕ) (b : Tree) → is_block_within tag deep b ≡ true → tree_from (marks b) ≡ b
tree_from_marks tag deep b h =
    let p = and_parts (is_tag_name tag b.name && is_proper tag b.items) (nat_le (depth b) deep) h in
    let q = and_parts (is_tag_name tag b.name) (is_proper tag b.items) p.0 in
    ap (λ k. first_tree (with_block b.channel b.name k)) (rebuilt-marks tag b.items (close_mark ∷ []) (end ∷ []) q.1 refl)

pub marks_tell : (tag deep : ℕ) (a b : Tree) → is_block_within tag deep a ≡ true → is_block_within tag deep b ≡ true → marks a ≡ marks b → a ≡ b
marks_tell tag deep a b h k e = sym (tree_from_marks tag deep a h) ∙ ap tree_from e ∙ tree_from_marks tag deep b k

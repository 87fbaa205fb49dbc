-- Reading a row of items tells whether it is proper.
use Rattle.std.proofs.Common.{◌≡◌, ℕ, Bool, true, false, not, ◌&&◌, nat_le, length, refl, ap, ap₂, ◌∙◌}
use Rattle.block_tree.specs.Tree.{Items, end, text, block}
use Rattle.block_tree.specs.Shape.{is_proper, is_tag_name, begins_with_text}
use Rattle.block_tree.specs.inside.Reading.{is_right}

and_assoc : (a b c : Bool) → (a && (b && c)) ≡ (a && b && c)
and_assoc true b c = refl
and_assoc false b c = refl

pub right_is : (most : ℕ) (after : Bool) (x : Items) → is_right most after x ≡ (not (after && begins_with_text x) && is_proper most x)
right_is most true end = refl
right_is most false end = refl
right_is most true (text t rest) = refl
right_is most false (text t rest) = ap (λ r. nat_le 1 (length t) && r) (right_is most true rest) ∙ and_assoc (nat_le 1 (length t)) (not (begins_with_text rest)) (is_proper most rest)
right_is most true (block c n i rest) = ap₂ (λ q r. is_tag_name most n && q && r) (right_is most false i) (right_is most false rest)
right_is most false (block c n i rest) = ap₂ (λ q r. is_tag_name most n && q && r) (right_is most false i) (right_is most false rest)

pub right_proper : (most : ℕ) (x : Items) → is_right most false x ≡ is_proper most x
right_proper most x = right_is most false x

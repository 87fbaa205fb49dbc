-- Bytes that are spelled as they are.
use Rattle.std.proofs.Common.{◌≡◌, ℕ, zero, suc, cond, false, List, [], ◌∷◌, ◌++◌, take, refl, ap, ◌∙◌, arith, append_assoc, append-nil, length-append}
use Rattle.std.proofs.lemmas.Bool.{false_from_ne_true}
use Rattle.std.specs.List.{flat_map}
use Rattle.std.proofs.lemmas.Grind.{flat_map-append}
use Rattle.block_tree.specs.View.{piece_text, piece_block, tree_out}
use Rattle.memchr.specs.Find.{Nowhere, Passes, is_byte3}
use Rattle.meta_format.specs.Canonical.{escape}
use Rattle.meta_format.specs.Spelling.{is_special}

-- the bytes before the first special one
pub spelled_plain : (s : List ℕ) (r : ℕ) → Nowhere (Passes (is_byte3 2 5 27) s) 0 r → flat_map escape (take r s) ≡ take r s
spelled_plain s zero none = refl
spelled_plain [] (suc r) none = refl
spelled_plain (c ∷ s) (suc r) none =
    let plain : is_special c ≡ false = false_from_ne_true _ (none 0 (omega arith) (omega arith)) in
    ap (λ b. cond b (27 ∷ c ∷ []) (c ∷ []) ++ flat_map escape (take r s)) plain ∙ ap (λ (l : List ℕ). c ∷ l) (spelled_plain s r (λ k low less. none (suc k) (omega arith) (omega (arith, less))))

pub ruleset text_rules = (flat_map-append, append_assoc, append-nil, length-append)

pub ruleset node_rules = (length-append, append_assoc, append-nil, tree_out, piece_text, piece_block)

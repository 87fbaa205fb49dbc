-- Blocks of one text that is spelled as it is.
use Rattle.std.proofs.Common.{◌≡◌, ℕ, List, [], ◌∷◌, refl, ◌∙◌, append-nil}
use Rattle.std.specs.List.{flat_map}
use Rattle.block_tree.specs.View.{piece_text}
use Rattle.meta_format.specs.Canonical.{escape, canonical_items}
use Rattle.recovery.specs.inside.Plain.{plain_items}

-- such a text is spelled by its own bytes, also where it is empty
pub plain_spelling : (t : List ℕ) → flat_map escape t ≡ t → canonical_items (plain_items t) ≡ t
plain_spelling [] plain = refl
plain_spelling (c ∷ t) plain = append-nil (flat_map escape (c ∷ t)) ∙ plain

-- a text that isn't empty stands there by itself
pub ruleset item_rules = (piece_text)

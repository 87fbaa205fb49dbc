-- The shape of a row of items, as it is read from left to right. No public clause cites it.
use Rattle.std.specs.Prelude.{ℕ, Bool, true, false, not, ◌&&◌, nat_le, length}
use Rattle.block_tree.specs.Tree.{Items, end, text, block}
use Rattle.block_tree.specs.Shape.{is_tag_name}

-- the same as is_proper, where the flag says whether a text stands before
abbrev pub is_right : ℕ → Bool → Items → Bool
is_right most after end = true
is_right most after (text t rest) = not after && nat_le 1 (length t) && is_right most true rest
is_right most after (block channel name inside rest) = is_tag_name most name && is_right most false inside && is_right most false rest

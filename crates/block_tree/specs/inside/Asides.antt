-- For private contracts: whether a prompt or a default input stands among items, at any depth.
use Rattle.std.specs.Prelude.{Bool, false, ◌||◌}
use Rattle.block_tree.specs.Tree.{Items, end, text, block}
use Rattle.block_tree.specs.Output.{is_aside}

abbrev pub has_aside : Items → Bool
has_aside end = false
has_aside (text t rest) = has_aside rest
has_aside (block channel name inside rest) = is_aside channel name || has_aside inside || has_aside rest

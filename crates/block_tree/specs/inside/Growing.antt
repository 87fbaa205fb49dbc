-- How a row of items grows at its end.
use Rattle.std.specs.Prelude.{ℕ, List, ◌++◌}
use Rattle.block_tree.specs.Tree.{Items, Tree, end, text, block}

-- a text after all others, one with the last of them where that is a text
abbrev pub text_after : Items → List ℕ → Items
text_after end t = text t end
text_after (text s end) t = text (s ++ t) end
text_after (text s (text u rest)) t = text s (text_after (text u rest) t)
text_after (text s (block channel name inside rest)) t = text s (text_after (block channel name inside rest) t)
text_after (block channel name inside rest) t = block channel name inside (text_after rest t)

-- a block after all others
abbrev pub block_after : Items → Tree → Items
block_after end b = block b.channel b.name b.items end
block_after (text s rest) b = text s (block_after rest b)
block_after (block channel name inside rest) b = block channel name inside (block_after rest b)

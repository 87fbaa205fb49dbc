-- Items that show nothing, one by one. No public clause cites it.
use Rattle.std.specs.Prelude.{◌==◌, ◌&&◌, Bool, true, length}
use Rattle.block_tree.specs.Tree.{Items, end, text, block}
use Rattle.sheet_text.specs.Blocks.{is_bare}

-- whether each text of these items is empty, and each block shows no tag, at any depth
abbrev pub are_blank : Items → Bool
are_blank end = true
are_blank (text given rest) = length given == 0 && are_blank rest
are_blank (block channel name inside rest) = is_bare channel name && are_blank inside && are_blank rest

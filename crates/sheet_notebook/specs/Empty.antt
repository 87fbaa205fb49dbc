-- Outputs that show nothing, as that of a line without a value.
use Rattle.std.specs.Prelude.{◌==◌, Bool, length}
use Rattle.block_tree.specs.Tree.{Tree}
use Rattle.sheet_text.specs.Blocks.{block_text}

-- whether `print` shows no byte of an output
abbrev pub shows_nothing : Tree → Bool
shows_nothing output = length (block_text output) == 0

-- What is read after a block that was found. Public contracts cite none of this.
use Rattle.std.specs.Prelude.{ℕ, List, Option, Some, None, option_map, if◌then◌else◌}
use Rattle.std.specs.Borrow.{Bor}
use Rattle.block_tree.specs.Tree.{Items}
use Rattle.block_tree.specs.View.{tree_of}
use Rattle.block_tree.specs.declared.tree.Node.{Node}
use Rattle.scheme_text.specs.Outputs.{is_blank, lone_text, text_among_blanks}

-- what stands in the block that was found
abbrev pub found_items : Option (Bor Node) → Option Items
found_items found = option_map (λ n. (tree_of n.now).items) found

-- the text, where the block was found already, or not yet
abbrev pub text_after : Option Items → Items → Option (List ℕ)
text_after None rest = text_among_blanks rest
text_after (Some inside) rest = if is_blank rest then lone_text inside else None

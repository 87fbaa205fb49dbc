use Rattle.std.proofs.Common.{◌≡◌, map, drop, option_map}
use Rattle.block_tree.specs.Tree.{items_from}
use Rattle.block_tree.specs.View.{piece_of, tree_of}
use Rattle.block_tree.specs.Output.{text_of, last_text}
use Rattle.block_tree.specs.inside.Words.{or_else}
use Rattle.block_tree.proofs.channel.+last_channel.Given as goal

abbrev pub invariant-loop-item : goal.invariant-loop-item
invariant-loop-item l = or_else (last_text l.name (items_from (map piece_of (drop l.item-index l.item-items)))) (option_map (λ n. text_of (tree_of n.now).items) l.found)
    ≡ last_text l.name (items_from (map piece_of l.item-items))

use Rattle.block_tree.specs.Same.{same_tree-Decides}
use Rattle.block_tree.proofs.laws.equal_blocks.Goals as goal

pub returns : goal.returns
returns c a b = same_tree-Decides a b

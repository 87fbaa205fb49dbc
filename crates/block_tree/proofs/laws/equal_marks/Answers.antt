use Rattle.block_tree.proofs.Rebuilt.{marks_tell}
use Rattle.block_tree.proofs.laws.equal_marks.Goals as goal

pub returns : goal.returns
returns c = marks_tell

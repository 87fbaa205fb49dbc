use Rattle.sheet_notebook.proofs.Blocks.{inside_done}
use Rattle.sheet_notebook.proofs.strings.push_inside.Goals as goal

pub returns : goal.returns
returns c = inside_done c.args.node.now _ _ _ _ c.loop-item-test.false c.deref-item-items.ensures.value c.loop-item.invariant

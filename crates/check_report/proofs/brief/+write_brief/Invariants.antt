use Rattle.std.proofs.Common.{take}
use Rattle.std.specs.Io.KnownBytes.{Appends}
use Rattle.check_report.proofs.Brevity.{items_of_node}
use Rattle.check_report.proofs.brief.+write_brief.Given as goal

abbrev pub invariant-loop-item : goal.invariant-loop-item
invariant-loop-item g l = Appends (g.W.Write.contents l.initial.out) (g.W.Write.contents l.out) (items_of_node (take l.item-index l.item-items))

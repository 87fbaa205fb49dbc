use Rattle.std.proofs.Common.{length}
use Rattle.check_report.specs.Xml.{xml_after, xml_text}
use Rattle.check_report.proofs.Written.{Written}
use Rattle.check_report.proofs.xml.write_text.Given as goal

abbrev pub invariant-loop-byte : goal.invariant-loop-byte
invariant-loop-byte g l = Written (g.W.Write.contents l.initial.out) (g.W.Write.contents l.out) (xml_after l.left l.rest) (xml_text l.text)

abbrev pub decreases-loop-byte : goal.decreases-loop-byte
decreases-loop-byte g l = length l.rest

use Rattle.check_report.proofs.Texts.{text_written}
use Rattle.check_report.proofs.xml.write_text.Goals as goal

pub returns : goal.returns
returns g c = text_written c.loop-byte.left c.loop-byte.rest.now _ _ _ c.in_default.ensures.cases c.loop-byte.invariant

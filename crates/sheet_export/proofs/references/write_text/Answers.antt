use Rattle.sheet_export.proofs.Texts.{text_written}
use Rattle.sheet_export.proofs.references.write_text.Goals as goal

pub returns : goal.returns
returns g c = text_written c.args.keeps_lines c.loop-byte.left c.loop-byte.rest.now _ _ _ c.in_default.ensures.cases c.loop-byte.invariant

use Rattle.std.proofs.Common.{length}
use Rattle.sheet_export.specs.Markdown.{fields_after, fields_markdown}
use Rattle.sheet_export.proofs.Written.{Written}
use Rattle.sheet_export.proofs.markdown.markdown_text.Given as goal

abbrev pub invariant-loop-field : goal.invariant-loop-field
invariant-loop-field g l = Written (g.W.Write.contents l.fn.out) (g.W.Write.contents l.out) (fields_after l.fields) (fields_markdown l.sheet.contents.fields)

abbrev pub decreases-loop-field : goal.decreases-loop-field
decreases-loop-field g l = length l.fields

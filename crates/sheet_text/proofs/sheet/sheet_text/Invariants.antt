use Rattle.std.proofs.Common.{length}
use Rattle.sheet_text.proofs.Fields.{Written}
use Rattle.sheet_text.proofs.sheet.sheet_text.Given as goal

abbrev pub invariant-loop-field : goal.invariant-loop-field
invariant-loop-field g l = Written (g.W.Write.contents l.initial.out) (g.W.Write.contents l.out) l.fields l.sheet.contents.fields

abbrev pub decreases-loop-field : goal.decreases-loop-field
decreases-loop-field g l = length l.fields

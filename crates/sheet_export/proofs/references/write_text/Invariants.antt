use Rattle.std.proofs.Common.{length}
use Rattle.sheet_export.specs.References.{html_after, html_text}
use Rattle.sheet_export.proofs.Written.{Written}
use Rattle.sheet_export.proofs.references.write_text.Given as goal

abbrev pub invariant-loop-byte : goal.invariant-loop-byte
invariant-loop-byte g l = Written (g.W.Write.contents l.initial.out) (g.W.Write.contents l.out) (html_after l.keeps_lines l.left l.rest) (html_text l.keeps_lines l.bytes)

abbrev pub decreases-loop-byte : goal.decreases-loop-byte
decreases-loop-byte g l = length l.rest

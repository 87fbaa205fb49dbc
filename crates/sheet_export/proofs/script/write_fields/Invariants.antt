use Rattle.std.proofs.Common.{◌≡◌, ◌+◌, length}
use Rattle.sheet_export.specs.Script.{lines_text, field_lines}
use Rattle.sheet_export.proofs.Written.{Written}
use Rattle.sheet_export.proofs.script.write_fields.Given as goal

abbrev pub invariant-loop-field : goal.invariant-loop-field
invariant-loop-field g l =
    Written (g.W.Write.contents l.initial.out) (g.W.Write.contents l.out) (lines_text (field_lines l.place l.fields)) (lines_text (field_lines 0 l.sheet.contents.fields))
    × (l.place + length l.fields ≡ length l.sheet.contents.fields)

abbrev pub decreases-loop-field : goal.decreases-loop-field
decreases-loop-field g l = length l.fields

use Rattle.std.proofs.Common.{flat_map, length}
use Rattle.sheet_export.specs.Html.{field_html}
use Rattle.sheet_export.proofs.Written.{Written}
use Rattle.sheet_export.proofs.html.write_fields.Given as goal

abbrev pub invariant-loop-field : goal.invariant-loop-field
invariant-loop-field g l = Written (g.W.Write.contents l.initial.out) (g.W.Write.contents l.out) (flat_map field_html l.fields) (flat_map field_html l.sheet.contents.fields)

abbrev pub decreases-loop-field : goal.decreases-loop-field
decreases-loop-field g l = length l.fields

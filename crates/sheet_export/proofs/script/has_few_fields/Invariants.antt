use Rattle.std.proofs.Common.{◌≡◌, ◌+◌, ◌≤◌, length}
use Rattle.worksheet.specs.Limits.{most_fields}
use Rattle.sheet_export.proofs.script.has_few_fields.Given as goal

abbrev pub invariant-loop-count : goal.invariant-loop-count
invariant-loop-count l = (l.count + length l.fields ≡ length l.sheet.contents.fields) × (l.count ≤ most_fields)

abbrev pub decreases-loop-count : goal.decreases-loop-count
decreases-loop-count l = length l.fields

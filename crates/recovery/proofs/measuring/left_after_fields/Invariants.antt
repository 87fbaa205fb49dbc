use Rattle.std.proofs.Common.{◌≤◌, ◌-◌}
use Rattle.worksheet.specs.Rewrite.{fields_ops}
use Rattle.recovery.proofs.Measures.{MeasuredSoFar}
use Rattle.recovery.proofs.measuring.left_after_fields.Given as goal

abbrev pub invariant-loop-id : goal.invariant-loop-id
invariant-loop-id l =
    let fields = l.sheet.contents.fields in
    let last = l.sheet.contents.next in
    record {
      within : l.id ≤ last;
      so_far : MeasuredSoFar (fields_ops fields (last - 1) 1 1) (fields_ops fields (last - l.id) l.id l.next) l.fn.left l.rest;
    }

abbrev pub decreases-loop-id : goal.decreases-loop-id
decreases-loop-id l = l.sheet.contents.next - l.id

use Rattle.std.proofs.Common.{◌≡◌, ◌+◌, ◌≤◌, length}
use Rattle.sheet_check.specs.Progress.{checked_count}
use Rattle.sheet_check.proofs.sessions.count_checked.Given as goal

abbrev pub invariant-loop-field : goal.invariant-loop-field
invariant-loop-field l = record {
  few : l.count + length l.fields ≤ length l.fn.sheet.contents.fields;
  sum : l.count + checked_count l.fn.chosen l.fields ≡ checked_count l.fn.chosen l.fn.sheet.contents.fields;
}

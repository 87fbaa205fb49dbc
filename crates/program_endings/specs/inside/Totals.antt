-- A total with one worksheet more.
use Rattle.std.specs.Prelude.{◌+◌, ◌==◌, ◌&&◌}
use Rattle.check_report.specs.declared.verdict.VerdictCounts.{VerdictCounts}
use Rattle.program_endings.specs.declared.ending.Ending.{Ending}
use Rattle.program_endings.specs.declared.several_program.Total.{Total}

-- of which these are the counts
abbrev pub with_counts : VerdictCounts → Ending → Total → Total
with_counts counts ending total = record {
  worksheets = total.worksheets + 1;
  same = total.same + counts.same;
  differ = total.differ + counts.differ;
  unanswered = total.unanswered + counts.unanswered;
  errors = total.errors + counts.errors;
  new = total.new + counts.new;
  faults = total.faults;
  passed = total.passed && (ending.status == 0);
  reported = total.reported && ending.reported;
}

-- whose check met a fault
abbrev pub with_fault : Ending → Total → Total
with_fault ending total = record {
  worksheets = total.worksheets + 1;
  same = total.same;
  differ = total.differ;
  unanswered = total.unanswered;
  errors = total.errors;
  new = total.new;
  faults = total.faults + 1;
  passed = total.passed && (ending.status == 0);
  reported = total.reported && ending.reported;
}

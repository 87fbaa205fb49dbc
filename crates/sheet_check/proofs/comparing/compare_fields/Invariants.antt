use Rattle.std.proofs.Common.{◌+◌, ◌≤◌, length}
use Rattle.session_engine.specs.World.{World}
use Rattle.session_engine.specs.Host.{IsHost}
use Rattle.sheet_check.specs.Progress.{FieldsShow, checked_count, display}
use Rattle.check_report.specs.Verdicts.{total}
use Rattle.sheet_check.specs.inside.Comparing.{comparing}
use Rattle.sheet_check.proofs.Compared.{ComparedSoFar}
use Rattle.sheet_check.proofs.comparing.compare_fields.Given as goal

abbrev pub invariant-loop-field : goal.invariant-loop-field
invariant-loop-field g l = record {
  few : total l.counts + length l.fields ≤ length l.fn.sheet.contents.fields;
  errors : l.counts.errors ≤ total l.counts;
  shown : FieldsShow (display l.fn.manner.request.now.format g.P.Progress.shows) (checked_count l.fn.manner.request.now.chosen l.fn.sheet.contents.fields) l.fn.progress l.counts l.progress;
  runs : (w : World) → IsHost l.fn.driver.host w → ComparedSoFar (comparing l.fn.manner.request.now.chosen l.fn.manner.request.now.format w l.fn.driver.sink.kept) l.fn.sheet.contents.fields l.fields (g.W.Write.contents l.fn.writer) (g.W.Write.contents l.writer) l.counts;
}

use Rattle.std.proofs.Common.{◌≡◌, ◌+◌, ◌++◌, ◌≤◌, List, [], length, false}
use Rattle.disk_model.specs.Disk.{DiskView}
use Rattle.worksheet.specs.declared.field.Field.{Field}
use Rattle.worksheet.specs.declared.op.Op.{Op}
use Rattle.session_engine.specs.World.{World}
use Rattle.session_engine.specs.Host.{IsHost}
use Rattle.child_edge.specs.Faithful.{at}
use Rattle.sheet_check.specs.Kept.{Stores}
use Rattle.check_report.specs.declared.report.ReportFormat.TheVariants as format
use Rattle.check_report.specs.Verdicts.{total}
use Rattle.sheet_check.specs.Evaluated.{way}
use Rattle.sheet_check.specs.Progress.{FieldsShow, checked_count, display}
use Rattle.sheet_check.specs.inside.Accepting.{GoesOn}
use Rattle.sheet_check.proofs.Accepted.{TookSoFar}
use Rattle.sheet_check.proofs.accept_fields.accept_fields.Given as goal

abbrev pub invariant-loop-field : goal.invariant-loop-field
invariant-loop-field g l = record {
  few : total l.counts + length l.fields ≤ length l.fn.suite.sheet.now.contents.fields;
  errors : l.counts.errors ≤ total l.counts;
  shown : FieldsShow (display format.Accepting g.P.Progress.shows) (checked_count l.fn.suite.manner.request.now.chosen l.fn.suite.sheet.now.contents.fields) l.fn.progress l.counts l.progress;
  rest : (gone : List Field) × (l.fn.suite.sheet.now.contents.fields ≡ gone ++ l.fields);
  stands : (w : World) × IsHost l.driver.host w;
  written : l.fn.store.gathers ≡ false → l.store.gathers ≡ false;
  goes : GoesOn l.fn.suite.sheet.now.contents l.store;
  runs : (w : World) → IsHost l.fn.driver.host w → (ops : List Op) → (disk : DiskView) → Stores ops [] disk l.fn.store
      → TookSoFar (way g.C.Children.after g.C.Sources.clock g.C.Sources.wakes l.fn.suite.manner.request.now.limit) l.fn.suite.manner.request.now.chosen l.fn.suite.sheet.now.contents.fields l.fields (at w l.fn.driver.sources l.fn.driver.host.store.disk) l.driver.host l.driver.sources (g.W.Write.contents l.fn.writer) (g.W.Write.contents l.writer) g.W.Stamped.held ops disk l.store l.counts;
}

-- A check of one worksheet where the places of closed streams can't be held.
use Rattle.std.proofs.Common.{◌≡◌, Err, inl}
use Rattle.clap.specs.Words.{Text}
use Rattle.check_report.specs.declared.report.ReportFormat.{ReportFormat as Report}
use Rattle.check_report.specs.declared.report.ReportFormat.TheVariants as format
use Rattle.host_cli.specs.Plans.{CheckPlan}
use Rattle.host_cli.specs.Outside.{OutsideView}
use Rattle.host_cli.specs.Tasks.{ChecksIn, EndsWith, OnlyHeld}
use Rattle.host_cli.specs.declared.outside.Outside.{Outside}
use Rattle.program_endings.specs.Faults.{no_place}
use Rattle.program_endings.specs.declared.ending.Ending.{Ending}
use Rattle.sheet_files.specs.declared.files_fault.HoldFault.{HoldFault}

-- whatever it would have reported in
pub check_unheld : {Y D P S I W E Q : Type 0} (o : OutsideView D P S I W E) (F : Report) (old new : Outside Y D P S I W E Q) (ending : Ending) (path : Text) (c : CheckPlan)
    → (why : HoldFault) × o.places.holds old.places (Err why) new.places × OnlyHeld old new × ((new.sources ≡ old.sources) × EndsWith o old new ending (Err (no_place why)))
    → ChecksIn o F old new ending path c
check_unheld o format.Text old new ending path c unheld = inl unheld
check_unheld o format.Whole old new ending path c unheld = inl unheld
check_unheld o format.Tap old new ending path c unheld = inl unheld
check_unheld o format.Junit old new ending path c unheld = inl unheld
check_unheld o format.Json old new ending path c unheld = inl unheld
check_unheld o format.Accepting old new ending path c unheld = inl unheld

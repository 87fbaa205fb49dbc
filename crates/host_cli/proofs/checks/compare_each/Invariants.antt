use Rattle.std.proofs.Common.{◌≡◌, drop}
use Rattle.program_endings.specs.SeveralProgram.{IsBounded}
use Rattle.host_cli.specs.Plans.{check_plan}
use Rattle.driver.specs.Place.{source_rules}
use Rattle.host_cli.specs.Outside.{disks_seen, outside_view, output_seen, streams_seen}
use Rattle.host_cli.proofs.EachChecked.{EachSoFar}
use Rattle.host_cli.proofs.checks.compare_each.Given as goal

abbrev pub invariant-loop-path : goal.invariant-loop-path
invariant-loop-path g l =
    EachSoFar (outside_view g.Y.Places.Places (disks_seen g.Y.Disk.Disk g.Y.Disk.Close.closed) (source_rules g.Y.Sources.Children.after g.Y.Sources.Sources.wakes g.Y.Sources.Sources.clock) g.Y.Sources.TellsPartial.begins (streams_seen g.Y.Input.Read (output_seen g.Y.Output.Write g.Y.Output.Stamped.held g.Y.Output.Outlet.flushed g.Y.Output.Says.tried) g.Y.Errors.Write g.Y.Errors.Says.tried))
    (check_plan l.beside.manner.request.now l.beside.jobs) l.paths (drop l.path-index l.paths) l.fn.outside l.outside l.total
    × IsBounded l.total × (l.total.worksheets ≡ l.path-index) × (l.outside.input ≡ l.fn.outside.input)

use Rattle.std.proofs.Common.{refl}
use Rattle.driver.specs.Place.{source_rules}
use Rattle.host_cli.specs.Outside.{disks_seen, outside_view, output_seen, streams_seen}
use Rattle.host_cli.specs.Plans.{check_plan}
use Rattle.host_cli.proofs.Unheld.{check_unheld}
use Rattle.host_cli.proofs.checks.check_by.Goals as goal

pub returns-in-Err-clause-does : goal.returns-in-Err-clause-does
returns-in-Err-clause-does g c =
    let old = c.args.outside in
    check_unheld (outside_view g.Y.Places.Places (disks_seen g.Y.Disk.Disk g.Y.Disk.Close.closed) (source_rules g.Y.Sources.Children.after g.Y.Sources.Sources.wakes g.Y.Sources.Sources.clock) g.Y.Sources.TellsPartial.begins
    (streams_seen g.Y.Input.Read (output_seen g.Y.Output.Write g.Y.Output.Stamped.held g.Y.Output.Outlet.flushed g.Y.Output.Says.tried) g.Y.Errors.Write g.Y.Errors.Says.tried))
    c.args.beside.now.manner.request.now.format old (record { places = c.hold.new.self; sources = old.sources; input = old.input; output = old.output; errors = c.end_unheld-ending.new.errors; progress = old.progress })
    c.end_unheld-ending.result c.args.path.now (check_plan c.args.beside.now.manner.request.now c.args.beside.now.jobs)
    (c.in-Err.why, c.in-Err.ensures, (refl, refl, refl, refl), (refl, (c.end_unheld-ending.ensures.status, c.end_unheld-ending.ensures.reported)))

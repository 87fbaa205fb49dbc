use Rattle.std.proofs.Common.{◌≡◌, ◌<◌, ◌≤◌, ◌-◌}
use Rattle.disk_model.specs.Disk.{InModel, area_of, bytes_on}
use Rattle.journal.specs.Area.{first_gate}
use Rattle.journal.specs.inside.Reads.{Reads}
use Rattle.journal.specs.inside.Window.{Shows}
use Rattle.journal.proofs.Walks.{Reached}
use Rattle.journal.proofs.walk.walk_gates.Given as goal

abbrev pub invariant-loop-cause : goal.invariant-loop-cause
invariant-loop-cause g l =
    let old = g.D.Disk.view l.fn.disk in
    record {
      from : first_gate ≤ l.gate;
      inside : l.gate < l.window.limit;
      area : l.window.area ≡ l.fn.window.area;
      limit : l.window.limit ≡ l.fn.window.limit;
      reads : Reads ⊥ old (g.D.Disk.view l.disk);
      shows : InModel old (Shows l.window (area_of l.fn.window.area (bytes_on old)));
      reached : InModel old (Reached (area_of l.fn.window.area (bytes_on old)) l.gate);
    }

abbrev pub decreases-loop-cause : goal.decreases-loop-cause
decreases-loop-cause g l = l.window.limit - l.gate

use Rattle.std.proofs.Common.{◌≡◌, ◌<◌, length, take}
use Rattle.disk_model.specs.Disk.{InModel, LeavesOnly, area_of, bytes_on}
use Rattle.journal.specs.Area.{HasHeader, StandsFor, end_of}
use Rattle.journal.specs.Limits.{longest_payload}
use Rattle.journal.specs.inside.Again.{SparedBy, Spares, Went}
use Rattle.journal.proofs.rewrite.lay_all.Given as goal

abbrev pub invariant-loop-frame : goal.invariant-loop-frame
invariant-loop-frame g l =
    let old = g.D.Disk.view l.fn.disk in
    let new = g.D.Disk.view l.disk in
    record {
      end : l.end ≡ end_of (take l.frame-index l.frames);
      went : Went old new;
      moments : InModel old (LeavesOnly (Spares l.area old.history.now) old.history new.history);
      spared : InModel old (SparedBy l.area (bytes_on old) (bytes_on new));
      inside : InModel old (l.end < length (area_of l.area (bytes_on new)));
      laid : InModel old (HasHeader (bytes_on old).first → StandsFor longest_payload (area_of l.area (bytes_on new)) (take l.frame-index l.frames));
    }

use Rattle.std.proofs.Common.{◌≡◌, ◌≤◌, ◌-◌, length, drop}
use Rattle.disk_model.specs.Disk.{InModel, area_of, bytes_on}
use Rattle.journal.specs.inside.Reads.{Begins, Reads}
use Rattle.journal.specs.inside.Window.{Shows}
use Rattle.journal.proofs.window.Window.copy.Given as goal

abbrev pub invariant-loop-bytes : goal.invariant-loop-bytes
invariant-loop-bytes g l =
    let old = g.D.Disk.view l.fn.disk in
    record {
      short : length l.bytes.items ≤ l.len;
      area : l.self.area ≡ l.fn.self.area;
      limit : l.self.limit ≡ l.fn.self.limit;
      reads : Reads ⊥ old (g.D.Disk.view l.disk);
      shows : InModel old (Shows l.self (area_of l.fn.self.area (bytes_on old)));
      begins : InModel old (Begins l.bytes.items (drop l.at (area_of l.fn.self.area (bytes_on old))));
    }

abbrev pub decreases-loop-bytes : goal.decreases-loop-bytes
decreases-loop-bytes g l = l.len - length l.bytes.items

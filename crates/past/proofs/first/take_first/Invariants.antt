use Rattle.std.proofs.Common.{◌≡◌, ◌≤◌, ◌-◌}
use Rattle.disk_model.specs.Disk.{InModel, Looks, SameDisk}
use Rattle.recovery.proofs.Rescues.{ReachedInFront}
use Rattle.past.proofs.first.take_first.Given as goal

abbrev pub invariant-loop-kept : goal.invariant-loop-kept
invariant-loop-kept g l =
    let old = l.fn.front.disk in
    let new = l.front.disk in
    record {
      before : l.front.gate ≤ l.front.end;
      most : l.kept ≤ l.fn.count;
      same : SameDisk old new;
      steady : new.faults ≡ old.faults;
      looks : InModel old (Looks old.history new.history);
      reached : ReachedInFront l.fn.front l.front l.sheet.contents l.kept;
    }

abbrev pub decreases-loop-kept : goal.decreases-loop-kept
decreases-loop-kept g l = l.fn.count - l.kept

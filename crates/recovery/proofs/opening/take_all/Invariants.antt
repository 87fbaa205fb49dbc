use Rattle.std.proofs.Common.{◌≡◌, ◌≤◌, ◌-◌}
use Rattle.disk_model.specs.Disk.{InModel, Looks, SameDisk}
use Rattle.recovery.proofs.Taking.{Reached}
use Rattle.recovery.proofs.opening.take_all.Given as goal

abbrev pub invariant-loop-following : goal.invariant-loop-following
invariant-loop-following g l =
    let old = l.fn.opening.disk in
    let new = l.opening.disk in
    record {
      before : l.opening.gate ≤ l.opening.end;
      same : SameDisk old new;
      steady : new.faults ≡ old.faults;
      looks : InModel old (Looks old.history new.history);
      reached : Reached l.fn.opening l.opening l.sheet.contents;
    }

abbrev pub decreases-loop-following : goal.decreases-loop-following
decreases-loop-following g l = l.opening.end - l.opening.gate

use Rattle.std.proofs.Common.{◌≡◌, ◌≤◌, ◌-◌, ◌+◌, ◌*◌}
use Rattle.std.specs.Io.KnownBytes.{Appends}
use Rattle.disk_model.specs.Disk.{InModel, Looks, SameDisk, greatest_room}
use Rattle.past.proofs.Lists.{ListedInFront}
use Rattle.past.proofs.history.list_front.Given as goal

abbrev pub invariant-loop-following : goal.invariant-loop-following
invariant-loop-following g l =
    let old = l.fn.front.disk in
    let new = l.front.disk in
    record {
      before : l.front.gate ≤ l.front.end;
      small : l.front.end ≤ greatest_room;
      counted : 6 * l.count + 10 ≤ l.front.gate;
      same : SameDisk old new;
      steady : new.faults ≡ old.faults;
      looks : InModel old (Looks old.history new.history);
      listed : ListedInFront l.fn.front l.front l.sheet.contents l.count (Appends (g.W.Write.contents l.initial.writer) (g.W.Write.contents l.writer));
    }

abbrev pub decreases-loop-following : goal.decreases-loop-following
decreases-loop-following g l = l.front.end - l.front.gate

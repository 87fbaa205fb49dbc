use Rattle.std.proofs.Common.{◌≤◌, ◌-◌, List, ℕ}
use Rattle.disk_model.specs.Disk.{InModel}
use Rattle.journal.specs.Area.{first_gate}
use Rattle.journal.specs.Opening.{HasGiven}
use Rattle.journal.specs.Payloads.{payloads_in, AreGates}
use Rattle.journal.specs.inside.Reads.{Reads}
use Rattle.journal.proofs.journal.Journal.open.Given as goal

abbrev pub invariant-loop-following : goal.invariant-loop-following
invariant-loop-following g l =
    let old = g.D.Disk.view l.fn.disk in
    record {
      before : l.opening.gate ≤ l.opening.end;
      reads : Reads ⊥ old l.opening.disk;
      given : InModel old ((left : List (List ℕ)) × HasGiven l.opening (payloads_in l.payloads.items) left);
      gates : InModel old (AreGates first_gate l.payloads.items);
    }

abbrev pub decreases-loop-following : goal.decreases-loop-following
decreases-loop-following g l = l.opening.end - l.opening.gate

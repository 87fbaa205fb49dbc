use Rattle.std.proofs.Common.{◌≡◌, ◌+◌, ◌*◌, ◌≤◌, vec_len, vec_capacity}
use Rattle.disk_model.specs.Disk.{SameDisk}
use Rattle.session_engine.specs.World.{World}
use Rattle.session_engine.specs.Host.{IsHost}
use Rattle.child_edge.specs.Edge.{Ran}
use Rattle.child_edge.specs.Faithful.{at}
use Rattle.child_edge.specs.inside.Gating.{CarriedSoFar}
use Rattle.child_edge.proofs.together.carry_each.Given as goal

abbrev pub invariant-loop-outcome : goal.invariant-loop-outcome
invariant-loop-outcome g l = record {
  capacity : vec_capacity l.replies ≡ vec_capacity l.initial.replies;
  len : vec_len l.replies ≤ vec_len l.initial.replies + 3 * l.outcome-index;
  same : SameDisk l.initial.host.store.disk l.host.store.disk;
  runs : (w : World) → IsHost l.initial.host w → Ran (CarriedSoFar g.C.Children.after l.outcomes l.outcome-index (at w l.initial.children l.initial.host.store.disk)) l.initial.replies.items l.host l.children l.replies.items;
}

use Rattle.std.proofs.Common.{◌≡◌, ◌+◌, ◌++◌, ◌≤◌, List, Some, true, vec_len, vec_capacity}
use Rattle.disk_model.specs.Disk.{SameDisk}
use Rattle.session_engine.specs.World.{World}
use Rattle.session_engine.specs.Host.{IsHost}
use Rattle.child_edge.specs.Faithful.{at, Entry, Follows}
use Rattle.child_edge.specs.Reported.{reported}
use Rattle.child_edge.specs.inside.Ranks.{rank}
use Rattle.child_edge.proofs.serving.follow.Given as goal

abbrev pub invariant-loop : goal.invariant-loop
invariant-loop g l = record {
  room : vec_len l.replies + 3 ≤ vec_capacity l.replies + l.counter;
  capacity : vec_capacity l.replies ≡ vec_capacity l.fn.replies;
  len : vec_len l.replies ≤ vec_len l.fn.replies + l.counter;
  same : SameDisk l.fn.host.store.disk l.host.store.disk;
  runs : (w : World) → IsHost l.fn.host w → (bs : List Entry) × (v : World) × Follows g.C.Children.after (at w l.fn.children l.fn.host.store.disk) (Some l.fn.event) bs l.due (at v l.children l.host.store.disk)
      × IsHost l.host v × (l.replies.items ≡ l.fn.replies.items ++ reported bs) × (rank l.due + l.counter ≤ 3);
  still : l.fn.host.closed ≡ true → (l.counter ≡ 0) × (l.due ≡ Some l.fn.event) × (l.host ≡ l.fn.host) × (l.children ≡ l.fn.children) × (l.replies.items ≡ l.fn.replies.items);
}

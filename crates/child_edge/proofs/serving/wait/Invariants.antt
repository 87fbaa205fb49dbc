use Rattle.std.proofs.Common.{◌≡◌, [], true}
use Rattle.disk_model.specs.Disk.{SameDisk}
use Rattle.session_engine.specs.World.{World}
use Rattle.session_engine.specs.Host.{IsHost}
use Rattle.child_edge.specs.Faithful.{at}
use Rattle.child_edge.specs.Edge.{Ran}
use Rattle.child_edge.specs.Steps.{Came, left_of}
use Rattle.child_edge.proofs.serving.wait.Given as goal

abbrev pub invariant-loop-replies : goal.invariant-loop-replies
invariant-loop-replies g l = record {
  same : SameDisk l.fn.host.store.disk l.host.store.disk;
  runs : (w : World) → IsHost l.fn.host w → Ran (λ bs t. Came g.C.Children.after l.wait (at w l.fn.children l.fn.host.store.disk) bs t) [] l.host l.children l.replies.items;
  still : l.fn.host.closed ≡ true → (l.wait.whole ≡ 0) × (l.host ≡ l.fn.host) × (l.replies.items ≡ []) × (l.children ≡ l.fn.children);
}

abbrev pub decreases-loop-replies : goal.decreases-loop-replies
decreases-loop-replies g l = left_of l.wait

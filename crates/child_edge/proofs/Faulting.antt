-- What a fault of the host leaves.
use Rattle.std.proofs.Common.{◌≡◌, refl, ◌∙◌, true, arith}
use Rattle.std.specs.Prelude.{Result, Ok, Err, IfErr, OnErr}
use Rattle.disk_model.specs.Disk.{DiskView, SameDisk}
use Rattle.host_events.specs.declared.event.Event.{Event}
use Rattle.host_events.specs.declared.outcome.HostFault.{HostFault}
use Rattle.host_events.specs.declared.outcome.HostFault.TheVariants as hosts
use Rattle.session_engine.specs.World.{World}
use Rattle.session_engine.specs.Host.{HostView, IsHost}
use Rattle.session_engine.specs.Faults.{Failed}
use Rattle.child_edge.specs.Edge.{Stopped}

pub stopped_if : {T : Type 0} (r : Result T HostFault) (w : World) (e : Event) (old new : HostView) → IsHost old w → IfErr r (Failed w e old new) → SameDisk old.store.disk new.store.disk
    → OnErr r (new.closed ≡ true) → IfErr r (Stopped old.store.disk new w e)
stopped_if (Ok x) w e old new h failed same shut = tt
stopped_if (Err f) w e old new h failed same shut = record {
  closed = shut;
  held = h.stands.images;
  same = same;
  contents = failed.contents;
  numbers = failed.numbers;
  cause = failed.cause;
}

pub same-at : (d : DiskView) → SameDisk d d
same-at d = record { room = refl; keeps_model = refl; later = omega arith }

pub same-on : (a b c : DiskView) → SameDisk a b → SameDisk b c → SameDisk a c
same-on a b c p q = record { room = q.room ∙ p.room; keeps_model = q.keeps_model ∙ p.keeps_model; later = omega (arith, p.later, q.later) }

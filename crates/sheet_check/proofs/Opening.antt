-- The opening of a copy, and the stops after its evaluation.
use Rattle.std.proofs.Common.{List, refl, subst}
use Rattle.disk_model.specs.Disk.{DiskView, InModel, Looks, bytes_on}
use Rattle.worksheet.specs.declared.op.Op.{Op}
use Rattle.recovery.specs.Sheets.{IsSheetImage}
use Rattle.host_events.specs.declared.event.Event.{Event}
use Rattle.host_events.specs.declared.outcome.HostFault.{HostFault}
use Rattle.session_engine.specs.World.{World, world_at_opening}
use Rattle.session_engine.specs.Host.{EndsAt, HostView, IsHost}
use Rattle.child_edge.specs.Edge.{Stopped}
use Rattle.child_edge.specs.Faithful.{Relation}
use Rattle.child_edge.specs.Seats.{running}
use Rattle.child_edge.specs.Stops.{Stops}
use Rattle.sheet_check.specs.Opened.{OpenedOn}

-- each life that goes on was stopped, where the host stands for a world, and where a fault has closed it
abbrev pub StopsIn : {C : Type 0} → Relation C → HostView → C → C → Type 0
StopsIn R h c d = ((w : World) → IsHost h w → Stops R (running w) c d)
    × ((w : World) (e : Event) (before : DiskView) (f : HostFault) → Stopped before h w e f → Stops R (running w) c d)

pub opened_on : (disk : DiskView) (h : HostView) (ops : List Op) → IsHost h (world_at_opening ops disk.room h.store.end)
    → InModel disk (IsSheetImage h.store.sheet.contents (bytes_on disk)) → InModel disk (EndsAt (bytes_on disk) h.store.end) → InModel disk (Looks disk.history h.store.disk.history)
    → OpenedOn disk (world_at_opening ops disk.room h.store.end) h.store.disk
opened_on disk h ops stands found ends looks = record {
  ops = ops;
  end = h.store.end;
  allowed = stands.stands.allowed;
  is = refl;
  found = λ m. subst (λ s. IsSheetImage s (bytes_on disk)) stands.stands.contents (found m);
  ends = ends;
  looks = looks;
}

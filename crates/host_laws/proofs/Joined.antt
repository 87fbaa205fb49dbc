-- What the contract of a call that others join says of all its events.
use Rattle.std.proofs.Common.{◌≡◌, List, ◌++◌, subst}
use Rattle.std.specs.Prelude.{Result, Ok, Err, IfOk, IfErr}
use Rattle.disk_model.specs.Disk.{DiskView, SameDisk}
use Rattle.host_events.specs.declared.event.Event.{Event}
use Rattle.session_engine.specs.declared.joining.Joint.{Joint}
use Rattle.session_engine.specs.declared.joining.JoinFault.{JoinFault}
use Rattle.session_engine.specs.declared.joining.JoinFault.TheVariants as joins
use Rattle.session_engine.specs.World.{World}
use Rattle.session_engine.specs.Host.{HostView}
use Rattle.session_engine.specs.Joining.{Asking, HaltsJoined, ToBeTaken, TookJoined, alone, with_more}
use Rattle.host_laws.specs.Together.{HaltsAll, JoinedMeets}

module _ (A : Asking) (w : World) (events : List Event) (old new : HostView) (before : old.store.real ≡ old.store.disk) (after : new.store.real ≡ new.store.disk)
    (same : SameDisk old.store.real new.store.real) where
  on_disk : SameDisk old.store.disk new.store.disk
  on_disk = subst (λ (d : DiskView). SameDisk d new.store.disk) before (subst (λ (d : DiskView). SameDisk old.store.real d) after same)

  broke : (why : JoinFault) (all : List Event) → HaltsAll w all old new why → JoinedMeets w all old (Err why) new
  broke why all halts = record { took = tt; halts = halts; before = before; after = after; same = on_disk }

  pub all_met : (answer : Result Joint JoinFault) → IfOk answer (TookJoined A w events old new) → IfErr answer (HaltsJoined A w events old new)
      → (all : List Event) × ToBeTaken A w events all × JoinedMeets w all old answer new
  all_met (Ok joint) took halts = (
    events ++ took.more,
    with_more joint.outcomes.items joint.first took.more took.joined,
    record { took = took.took; halts = tt; before = before; after = after; same = on_disk },
  )
  all_met (Err joins.Checkpoint) took halts = (events, alone halts.0, broke joins.Checkpoint events halts.1)
  all_met (Err joins.NoRoom) took halts = (events, alone halts.0, broke joins.NoRoom events halts.1)
  all_met (Err (joins.Stopped fault)) took halts = (halts.0, halts.1, broke (joins.Stopped fault) halts.0 (halts.2, halts.3))
  all_met (Err joins.Disk) took halts = (halts.0, halts.1, broke joins.Disk halts.0 halts.2)

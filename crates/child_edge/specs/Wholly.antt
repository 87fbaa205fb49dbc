-- Commands that only change the worksheet, of which none is taken where one is refused. (docs/dev/EDGE.md, "A group".)
use Rattle.std.specs.Prelude.{◌≡◌, List, [], None, false}
use Rattle.std.specs.List.{AllByRecursion, list_any}
use Rattle.disk_model.specs.Disk.{DiskView}
use Rattle.host_events.specs.declared.event.Event.{Event}
use Rattle.host_events.specs.declared.outcome.Outcome.{Outcome}
use Rattle.session_engine.specs.World.{World}
use Rattle.session_engine.specs.Host.{HostView, IsHost}
use Rattle.session_engine.specs.Groups.{is_refusal}
use Rattle.session_engine.specs.Whole.{RefusedWhole}
use Rattle.session_engine.specs.declared.whole.Whole.{Whole}
use Rattle.session_engine.specs.declared.whole.Whole.TheVariants as whole
use Rattle.session_engine.specs.declared.whole.WholeFault.{WholeFault}
use Rattle.session_engine.specs.declared.whole.WholeFault.TheVariants as halt
use Rattle.child_edge.specs.Together.{AtOnce, LostTogether}

-- All were taken at once, and none was refused. None has an effect, so no child is called.
pub record AllTaken (w : World) (events : List Event) (outcomes : List Outcome) (v : World) (old new : DiskView) : Type 0 where
  pub kept : AtOnce w events outcomes v old new
  pub accepted : list_any is_refusal outcomes ≡ false
  pub alone : AllByRecursion (λ o. o.effect ≡ None) outcomes

-- They were, and the host stands for the world after them.
pub record TookAll (w : World) (events : List Event) (outcomes : List Outcome) (old new : HostView) : Type 0 where
  pub leads : World
  pub taken : AllTaken w events outcomes leads old.store.disk new.store.disk
  pub stands : IsHost new leads

-- All were taken, or none was.
abbrev pub ServesWhole : World → List Event → HostView → HostView → Whole → Type 0
ServesWhole w events old new (whole.Taken outcomes) = TookAll w events outcomes.items old new
ServesWhole w events old new (whole.Refused before last) = RefusedWhole w events before.items last old new

-- The disk failed when all were taken, of which none was refused: a crash left the worksheet from before them, or that after all of them.
pub record LostWhole (w : World) (events : List Event) (old : DiskView) (h : HostView) : Type 0 where
  pub lost : LostTogether w events old h
  pub all : lost.dropped ≡ []
  pub accepted : list_any is_refusal lost.withheld ≡ false

-- What a fault of that leaves, never a part of them: without memory none was taken, and a host that stands isn't closed.
abbrev pub FailsWhole : World → List Event → HostView → HostView → WholeFault → Type 0
FailsWhole w events old new halt.NoRoom = IsHost new w × (new.store.disk ≡ old.store.disk)
FailsWhole w events old new halt.Closed = ⊥
FailsWhole w events old new halt.Disk = LostWhole w events old.store.disk new

-- Commands that only change the worksheet, taken as one group: all of them, or those up to the first that is refused. (docs/dev/EDGE.md, "A group".)
use Rattle.std.specs.Prelude.{◌≡◌, Bool, true, false, List, [], ◌++◌, None}
use Rattle.std.specs.List.{AllByRecursion}
use Rattle.disk_model.specs.Disk.{DiskView}
use Rattle.host_events.specs.declared.event.Event.{Event}
use Rattle.host_events.specs.declared.outcome.Outcome.{Outcome}
use Rattle.session_engine.specs.World.{World}
use Rattle.session_engine.specs.Host.{HostView, IsHost}
use Rattle.session_engine.specs.Groups.{LastRefused, StopsAtRefusal}
use Rattle.child_edge.specs.Together.{AtOnce, LostTogether}
use Rattle.child_edge.specs.declared.edit_groups.EditsFault.{EditsFault}
use Rattle.child_edge.specs.declared.edit_groups.EditsFault.TheVariants as at_edits

-- where such a group ends: after all of the events, or after the first that was refused
abbrev pub EndsBy : Bool → List Outcome → List Event → Type 0
EndsBy false outcomes rest = rest ≡ []
EndsBy true outcomes rest = StopsAtRefusal outcomes rest

-- Of these events those were taken, which are the first, and there the group ends.
pub record TakesFirst (up_to : Bool) (events done : List Event) (outcomes : List Outcome) : Type 0 where
  pub rest : List Event
  pub split : events ≡ done ++ rest
  pub ends : EndsBy up_to outcomes rest

-- Events were taken at once. None has an effect, so no child is called.
pub record EditsKept (w : World) (events : List Event) (outcomes : List Outcome) (v : World) (old new : DiskView) : Type 0 where
  pub kept : AtOnce w events outcomes v old new
  pub alone : AllByRecursion (λ o. o.effect ≡ None) outcomes

-- The first were, up to where the group ends, and the host stands for the world after them.
pub record TookEdits (up_to : Bool) (w : World) (events : List Event) (old new : HostView) (outcomes : List Outcome) : Type 0 where
  pub done : List Event
  pub first : TakesFirst up_to events done outcomes
  pub leads : World
  pub taken : EditsKept w done outcomes leads old.store.disk new.store.disk
  pub stands : IsHost new leads

-- none of these outcomes but the last is a refusal, where a group ends at one
abbrev pub LastIf : Bool → List Outcome → Type 0
LastIf false outcomes = Unit {0}
LastIf true outcomes = LastRefused outcomes

-- The disk failed when the first of them were taken, none of them after one that was refused.
pub record LostEdits (up_to : Bool) (w : World) (events : List Event) (old : DiskView) (h : HostView) : Type 0 where
  pub lost : LostTogether w events old h
  pub last : LastIf up_to lost.withheld

-- What a fault of that leaves: without memory none was taken.
abbrev pub FailsEdits : Bool → World → List Event → HostView → HostView → EditsFault → Type 0
FailsEdits up_to w events old new at_edits.OutOfMemory = IsHost new w × (new.store.disk ≡ old.store.disk)
FailsEdits up_to w events old new at_edits.Lost = LostEdits up_to w events old.store.disk new

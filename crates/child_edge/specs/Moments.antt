-- What a crash leaves at every moment of a run. (docs/dev/EDGE.md, "A crash".)
use Rattle.std.specs.Prelude.{List, [], ◌∷◌, ◌++◌, map}
use Rattle.disk_model.specs.Disk.{DiskView}
use Rattle.host_events.specs.declared.event.Event.{Event}
use Rattle.host_events.specs.declared.reply.Reply.{Reply}
use Rattle.host_events.specs.declared.outcome.Outcome.{Outcome}
use Rattle.host_events.specs.declared.outcome.HostFault.{HostFault}
use Rattle.session_engine.specs.World.{World}
use Rattle.session_engine.specs.Crash.{Moments, MomentsBefore}
use Rattle.session_engine.specs.Host.{HostView}
use Rattle.child_edge.specs.Faithful.{At, Entry}
use Rattle.child_edge.specs.Edge.{Ran, BrokeOff}

abbrev pub events_of : List Entry → List Event
events_of bs = map (λ b. b.event) bs

abbrev pub outcomes_of : List Entry → List Outcome
outcomes_of bs = map (λ b. b.outcome) bs

-- From this disk to that one, at every moment each image is one of the worksheet after some of the first of these entries, which
-- begin in this world.
abbrev pub LeavesFronts : World → List Entry → DiskView → DiskView → Type 0
LeavesFronts w bs old new = Moments w (events_of bs) (outcomes_of bs) old new

-- The same where this event came after them and had this fault: where the disk failed, its op may be there too.
abbrev pub LeavesFrontsUpTo : World → List Entry → Event → HostFault → DiskView → DiskView → Type 0
LeavesFrontsUpTo w bs e fault old new = MomentsBefore w (events_of bs ++ e ∷ []) (outcomes_of bs) fault old new

-- A run of this form came about from here, and at every moment of it each image is one of the worksheet after some of its first entries.
pub record RanFrom {C : Type 0} (s : At C) (Form : At C → List Entry → At C → Type 0) (h : HostView) (c : C) (replies : List Reply) : Type 0 where
  pub ran : Ran (Form s) [] h c replies
  pub moments : LeavesFronts s.world ran.entries s.disk h.store.disk

-- The same of a run that broke off at an event.
pub record BrokeFrom {C : Type 0} (s : At C) (Form : At C → List Entry → Event → At C → Type 0) (h : HostView) (c : C) (replies : List Reply) (fault : HostFault) : Type 0 where
  pub broke : BrokeOff (Form s) [] h c replies fault
  pub moments : LeavesFrontsUpTo s.world broke.entries broke.failed fault s.disk h.store.disk

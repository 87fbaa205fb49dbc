-- What a run on a host leaves, where it came to its end and where it broke off.
use Rattle.std.specs.Prelude.{◌≡◌, ℕ, List, [], ◌++◌, Bool, true, option_map, Result, Ok, Err}
use Rattle.std.specs.declared.vec.Vec.{Vec}
use Rattle.disk_model.specs.Disk.{DiskView, SameDisk}
use Rattle.host_events.specs.declared.event.ChildEvent.{ChildEvent}
use Rattle.host_events.specs.declared.event.Event.{Event}
use Rattle.host_events.specs.declared.reply.Reply.{Reply}
use Rattle.host_events.specs.declared.outcome.HostFault.{HostFault}
use Rattle.host_events.specs.declared.outcome.HostFault.TheVariants as hosts
use Rattle.session_engine.specs.World.{World, life_of, sheet_in}
use Rattle.session_engine.specs.Host.{HostView, IsHost, number_in}
use Rattle.session_engine.specs.Faults.{CauseOf}
use Rattle.child_edge.specs.declared.serving.EdgeFault.{EdgeFault}
use Rattle.child_edge.specs.declared.serving.EdgeCause.{EdgeCause}
use Rattle.child_edge.specs.declared.serving.EdgeCause.TheVariants as cause
use Rattle.child_calls.specs.declared.seat.Seat.{Seat}
use Rattle.child_edge.specs.Kept.{HoldsSheet}
use Rattle.child_edge.specs.Faithful.{At, at, Entry, Hears, Relation}
use Rattle.child_edge.specs.Reported.{reported}

-- This fault came with this event, on a disk that was so before it, and held the worksheet. The host is closed; its worksheet and
-- each life's number are as before the event. Where the disk failed, the event may give an op, and each image at every moment of it
-- was one of the worksheet without it or with it. Any other fault leaves the disk as it was.
pub record Stopped (before : DiskView) (h : HostView) (w : World) (e : Event) (fault : HostFault) : Type 0 where
  pub closed : h.closed ≡ true
  pub held : HoldsSheet w before
  pub same : SameDisk before h.store.disk
  pub contents : h.store.sheet.contents ≡ sheet_in w
  pub numbers : (name : List ℕ) → number_in h.lives name ≡ option_map (λ l. l.number) (life_of w name)
  pub cause : CauseOf w e before h.store.disk fault

-- A run of this form came about, and leads to where the host and the children are now. Its replies come after those before.
pub record Ran {C : Type 0} (Form : List Entry → At C → Type 0) (before : List Reply) (h : HostView) (c : C) (replies : List Reply) : Type 0 where
  pub entries : List Entry
  pub leads : World
  pub form : Form entries (at leads c h.store.disk)
  pub stands : IsHost h leads
  pub replied : replies ≡ before ++ reported entries

-- A run of this form came about up to an event that was due, at which the host had this fault.
pub record BrokeOff {C : Type 0} (Form : List Entry → Event → At C → Type 0) (before : List Reply) (h : HostView) (c : C) (replies : List Reply) (fault : HostFault) : Type 0 where
  pub entries : List Entry
  pub leads : World
  pub disk : DiskView
  pub failed : Event
  pub form : Form entries failed (at leads c disk)
  pub stopped : Stopped disk h leads failed fault
  pub replied : replies ≡ before ++ reported entries

-- this where the host had a fault, and that where memory was refused
abbrev pub ByCause : EdgeCause → (HostFault → Type 0) → Type 0 → Type 0
ByCause (cause.Host f) broken short = broken f
ByCause cause.OutOfMemory broken short = short

-- the host reported that it is closed, or memory was refused
abbrev pub ClosedOrNoMemory : EdgeCause → Type 0
ClosedOrNoMemory why = ByCause why (λ f. f ≡ hosts.Closed) (Unit {0})

-- On a closed host no command is taken.
abbrev pub FailsClosed : {E : Type 0} → Result (Vec Reply E) EdgeFault → Type 0
FailsClosed (Ok replies) = ⊥
FailsClosed (Err fault) = (fault.replies.items ≡ []) × ClosedOrNoMemory fault.cause

-- On a closed host one child was heard before the host reported that it is closed, and none where memory was refused.
abbrev pub HeardOne : {C : Type 0} → Relation C → Bool → C → C → EdgeCause → Type 0
HeardOne R listens c d why = ByCause why (λ f. (seat : Seat) × (event : ChildEvent) × Hears R listens seat c event d) (d ≡ c)

-- On a closed host there is no reply: no item waits, or the wait breaks off.
abbrev pub TellsClosed : {E : Type 0} → Result (Vec Reply E) EdgeFault → Type 0
TellsClosed (Ok replies) = replies.items ≡ []
TellsClosed (Err fault) = (fault.replies.items ≡ []) × ClosedOrNoMemory fault.cause

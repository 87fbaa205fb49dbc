-- What a play of a group promises: all that its events give is durable at once, or nothing of it is. (docs/dev/HOST.md, "Many events, one gate".)
use Rattle.std.specs.Prelude.{◌≡◌, ◌≤◌, ℕ, Bool, List, [], ◌∷◌, ◌++◌, true, false, length, option_map, Result, Ok, Err}
use Rattle.std.specs.List.{list_any}
use Rattle.std.specs.declared.vec.Vec.{Vec}
use Rattle.disk_model.specs.Disk.{Rises}
use Rattle.host_events.specs.declared.event.Event.{Event}
use Rattle.host_events.specs.declared.outcome.Outcome.{Outcome}
use Rattle.host_events.specs.declared.reply.Reply.{Reply}
use Rattle.host_events.specs.declared.reply.Reply.TheVariants as reply
use Rattle.host_events.specs.declared.outcome.HostFault.{HostFault}
use Rattle.host_events.specs.declared.outcome.HostFault.TheVariants as hosts
use Rattle.session_engine.specs.declared.play.GroupFault.{GroupFault}
use Rattle.session_engine.specs.declared.play.GroupFault.TheVariants as halt
use Rattle.session_engine.specs.World.{World, life_of, sheet_in}
use Rattle.session_engine.specs.Host.{HostView, IsHost, number_in}
use Rattle.session_engine.specs.Faults.{Failed}
use Rattle.session_engine.specs.Crash.{HasPlayed}
use Rattle.session_engine.specs.Gathers.{FlushesTo, IsFlushed, is_checkpoint}

-- All events were taken, and what they give is durable: each image at every moment is one of the worksheet from before, or of
-- that after all of them.
pub record TookGroup (w : World) (events : List Event) (reported : List Outcome) (old new : HostView) : Type 0 where
  pub played : HasPlayed w events [] reported new
  pub flushed : IsFlushed new
  pub moments : FlushesTo (sheet_in played.leads) old.store new.store

-- Events were taken with these outcomes, which are durable, and the one after them had this fault, which isn't the disk's. The
-- later events are dropped, and the host is closed.
pub record StoppedGroup (w : World) (events : List Event) (old new : HostView) (reported : List Outcome) (fault : HostFault) : Type 0 where
  pub at : Event
  pub dropped : List Event
  -- the host before that event, and after it
  pub before : HostView
  pub after : HostView
  pub played : HasPlayed w events (at ∷ dropped) reported before
  pub failed : Failed played.leads at before after fault
  pub kept : (fault ≡ hosts.Disk) → ⊥
  pub contents : new.store.sheet.contents ≡ sheet_in played.leads
  pub numbers : (name : List ℕ) → number_in new.lives name ≡ option_map (λ l. l.number) (life_of played.leads name)
  pub closed : new.closed ≡ true
  pub flushed : IsFlushed new
  pub moments : FlushesTo (sheet_in played.leads) old.store new.store

-- The disk failed: its worksheet is the one from before, or that after these events, of which nothing is reported. In the host's
-- memory the worksheet, and each life's number, are as after them.
pub record FailedGroup (w : World) (events : List Event) (old new : HostView) : Type 0 where
  pub rest : List Event
  pub withheld : List Outcome
  pub before : HostView
  pub played : HasPlayed w events rest withheld before
  pub contents : new.store.sheet.contents ≡ sheet_in played.leads
  pub numbers : (name : List ℕ) → number_in new.lives name ≡ option_map (λ l. l.number) (life_of played.leads name)
  pub closed : new.closed ≡ true
  pub broke : Rises old.store.real.faults new.store.real.faults
  pub moments : FlushesTo (sheet_in played.leads) old.store new.store

-- There was no memory. No event was taken; what was owed before the call may have been flushed.
pub record NoGroup (w : World) (events back : List Event) (old new : HostView) : Type 0 where
  pub same : back ≡ events
  pub stands : IsHost new w
  pub untouched : old.store.owed ≡ [] → new.store.real ≡ old.store.real
  pub moments : FlushesTo (sheet_in w) old.store new.store

-- Why not all events were taken, or none is reported.
abbrev pub HaltsGroup : World → List Event → HostView → HostView → GroupFault → Type 0
HaltsGroup w events old new (halt.Checkpoint back) = (list_any is_checkpoint events ≡ true) × (back.items ≡ events) × (new ≡ old)
HaltsGroup w events old new (halt.NoRoom back) = NoGroup w events back.items old new
HaltsGroup w events old new (halt.Stopped outcomes fault) = StoppedGroup w events old new outcomes.items fault
HaltsGroup w events old new halt.Disk = FailedGroup w events old new

-- On a closed host no event is taken.
abbrev pub PlaysGroupClosed : {E : Type 0} → Result (Vec Outcome E) GroupFault → Type 0
PlaysGroupClosed (Ok outcomes) = ⊥
PlaysGroupClosed (Err (halt.Checkpoint back)) = ⊥
PlaysGroupClosed (Err (halt.NoRoom back)) = ⊥
PlaysGroupClosed (Err (halt.Stopped outcomes fault)) = (outcomes.items ≡ []) × (fault ≡ hosts.Closed)
PlaysGroupClosed (Err halt.Disk) = ⊥

-- the reply is a refusal
abbrev pub is_refused : Reply → Bool
is_refused reply.Done = false
is_refused (reply.Field id) = false
is_refused (reply.Asked number) = false
is_refused (reply.Refused why) = true
is_refused (reply.Child one) = false
is_refused reply.Nothing = false

abbrev pub is_refusal : Outcome → Bool
is_refusal o = is_refused o.reply

-- None of these outcomes is a refusal, but for the last.
pub record LastRefused (reported : List Outcome) : Type 0 where
  pub before : List Outcome
  pub last : List Outcome
  pub split : reported ≡ before ++ last
  pub one : length last ≤ 1
  pub accepted : list_any is_refusal before ≡ false

-- Events were taken with these outcomes up to the first refusal, and these are left: none was refused, and none is left; or the last was.
pub data StopsAtRefusal (reported : List Outcome) (rest : List Event) : Type 0 where
  nowhere : list_any is_refusal reported ≡ false → rest ≡ [] → StopsAtRefusal reported rest
  after_one : (before : List Outcome) (last : Outcome) → reported ≡ before ++ last ∷ [] → list_any is_refusal before ≡ false → is_refusal last ≡ true → StopsAtRefusal reported rest

-- Events were taken up to the first one that was refused, and what they give is durable.
pub record TookUpTo (w : World) (events : List Event) (reported : List Outcome) (old new : HostView) : Type 0 where
  pub rest : List Event
  pub played : HasPlayed w events rest reported new
  pub stops : StopsAtRefusal reported rest
  pub flushed : IsFlushed new
  pub moments : FlushesTo (sheet_in played.leads) old.store new.store

-- Why not all events up to a refusal were taken, or none is reported. None was taken after one that was refused.
abbrev pub HaltsUpTo : World → List Event → HostView → HostView → GroupFault → Type 0
HaltsUpTo w events old new (halt.Checkpoint back) = (list_any is_checkpoint events ≡ true) × (back.items ≡ events) × (new ≡ old)
HaltsUpTo w events old new (halt.NoRoom back) = NoGroup w events back.items old new
HaltsUpTo w events old new (halt.Stopped outcomes fault) = StoppedGroup w events old new outcomes.items fault × (list_any is_refusal outcomes.items ≡ false)
HaltsUpTo w events old new halt.Disk = (p : FailedGroup w events old new) × LastRefused p.withheld

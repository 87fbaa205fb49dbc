-- What a play of events promises that others join. No public contract names this.
use Rattle.std.specs.Prelude.{◌≡◌, List, [], ◌∷◌, ◌++◌, true}
use Rattle.host_events.specs.declared.event.Event.{Event}
use Rattle.host_events.specs.declared.outcome.Outcome.{Outcome}
use Rattle.host_events.specs.declared.outcome.HostFault.{HostFault}
use Rattle.session_engine.specs.declared.joining.Joint.{Joint}
use Rattle.session_engine.specs.World.{World}
use Rattle.session_engine.specs.Host.{HostView}
use Rattle.session_engine.specs.Faults.{Failed}
use Rattle.session_engine.specs.Crash.{HasPlayed}
use Rattle.session_engine.specs.Joining.{Asking, JoinsAfter, ToBeTaken}

-- all events were taken, and those that joined them
pub record PlayedJoined (A : Asking) (w : World) (events : List Event) (host : HostView) (joint : Joint) : Type 0 where
  pub more : List Event
  pub joined : JoinsAfter A w events joint.outcomes.items joint.first more
  pub played : HasPlayed w (events ++ more) [] (joint.outcomes.items ++ joint.later.items) host

-- events were taken up to one that had this fault
pub record Stops (w : World) (events : List Event) (new : HostView) (fault : HostFault) : Type 0 where
  pub reported : List Outcome
  pub at : Event
  pub dropped : List Event
  pub before : HostView
  pub played : HasPlayed w events (at ∷ dropped) reported before
  pub failed : Failed played.leads at before new fault
  pub closed : new.closed ≡ true

-- so, of the events or of those and what joined them
abbrev pub StopsJoining : Asking → World → List Event → HostView → HostFault → Type 0
StopsJoining A w events new fault = (all : List Event) × ToBeTaken A w events all × Stops w all new fault

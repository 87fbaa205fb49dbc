-- A host at work, between two events.
use Rattle.std.specs.Prelude.{Bool, false}
use Rattle.session_engine.specs.declared.engine.Engine.{Engine}
use Rattle.host_events.specs.declared.event.Event.{Event}
use Rattle.host_events.specs.declared.outcome.Outcome.{Outcome}
use Rattle.host_events.specs.declared.outcome.HostFault.{HostFault}
use Rattle.session_engine.specs.World.{World}
use Rattle.session_engine.specs.Host.{HostView, EngineStandsFor, Took}
use Rattle.session_engine.specs.Faults.{Failed}

abbrev pub view_of : {D : Type 0} → Engine D → Bool → HostView
view_of engine closed = record { store = engine.store; lives = engine.lives.items; begun = engine.begun; closed = closed }

abbrev pub StandsAt : {D : Type 0} → Engine D → World → Type 0
StandsAt engine w = EngineStandsFor engine.store engine.lives.items engine.begun w

abbrev pub Works : {D : Type 0} → Engine D → Type 0
Works engine = (w : World) × StandsAt engine w

abbrev pub TookAt : {D : Type 0} → World → Event → Engine D → Engine D → Outcome → Type 0
TookAt w e old new o = Took w e (view_of old false) (view_of new false) o

abbrev pub FailedAt : {D : Type 0} → World → Event → Engine D → Engine D → HostFault → Type 0
FailedAt w e old new fault = Failed w e (view_of old false) (view_of new false) fault

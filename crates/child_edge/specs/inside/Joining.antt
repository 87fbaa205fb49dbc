-- What the functions promise each other that take events together with those that join them. No public contract names this.
use Rattle.std.specs.Prelude.{◌≡◌, List, ◌++◌, length}
use Rattle.host_events.specs.declared.event.Event.{Event}
use Rattle.session_engine.specs.World.{World}
use Rattle.session_engine.specs.Host.{HostView, IsHost}
use Rattle.session_engine.specs.Joining.{Asking, JoinsAfter, ToBeTaken}
use Rattle.session_engine.specs.declared.joining.Joint.{Joint}
use Rattle.child_edge.specs.Faithful.{Relation, At, Entry}
use Rattle.child_edge.specs.Together.{LostTogether}
use Rattle.child_edge.specs.declared.together.TogetherFault.{TogetherFault}
use Rattle.child_edge.specs.declared.together.TogetherFault.TheVariants as halt
use Rattle.child_edge.specs.inside.Gating.{CarriedSoFar, EachUpTo, HaltsAtOnce, TookAtOnce}

-- Events and those that joined them were taken together, and are durable.
pub record TookWithJoined (A : Asking) (w : World) (events : List Event) (old new : HostView) (joint : Joint) : Type 0 where
  pub more : List Event
  pub joined : JoinsAfter A w events joint.outcomes.items joint.first more
  pub kept : TookAtOnce w (events ++ more) old new (joint.outcomes.items ++ joint.later.items)

-- Why they weren't.
abbrev pub HaltsWithJoined : Asking → World → List Event → HostView → HostView → TogetherFault → Type 0
HaltsWithJoined A w events old new halt.OutOfMemory = A.unasked × IsHost new w × (new.store.disk ≡ old.store.disk)
HaltsWithJoined A w events old new halt.Lost = (all : List Event) × ToBeTaken A w events all × LostTogether w all old.store.disk new
HaltsWithJoined A w events old new (halt.Host f) = (all : List Event) × ToBeTaken A w events all × HaltsAtOnce w all old new (halt.Host f)

-- the effects of all of them were carried out, and these entries came of it
abbrev pub JointCarried : {C : Type 0} → Relation C → Joint → At C → List Entry → At C → Type 0
JointCarried R joint s entries t = CarriedSoFar R (joint.outcomes.items ++ joint.later.items) (length (joint.outcomes.items ++ joint.later.items)) s entries t

-- the first effects were carried out, up to where this event is due
abbrev pub JointUpTo : {C : Type 0} → Relation C → Joint → At C → List Entry → Event → At C → Type 0
JointUpTo R joint s entries e t = EachUpTo R (joint.outcomes.items ++ joint.later.items) s entries e t

-- What the functions that take events together promise each other. No public contract names this.
use Rattle.std.specs.Prelude.{◌≡◌, ℕ, List, ◌∷◌, ◌++◌, Some, None, slice_get}
use Rattle.host_events.specs.declared.event.Event.{Event}
use Rattle.host_events.specs.declared.outcome.Outcome.{Outcome}
use Rattle.session_engine.specs.World.{World}
use Rattle.session_engine.specs.Host.{HostView, IsHost}
use Rattle.child_edge.specs.Edge.{Stopped}
use Rattle.child_edge.specs.Faithful.{Relation, At, Entry, FirstOf}
use Rattle.child_edge.specs.Together.{AtOnce, CarriesOut, Followed, LostTogether, entries_after}
use Rattle.child_edge.specs.declared.together.TogetherFault.{TogetherFault}
use Rattle.child_edge.specs.declared.together.TogetherFault.TheVariants as halt

-- Events were taken together, and are durable.
abbrev pub TookAtOnce : World → List Event → HostView → HostView → List Outcome → Type 0
TookAtOnce w events old new outcomes = (v : World) × AtOnce w events outcomes v old.store.disk new.store.disk × IsHost new v

-- Why they weren't.
abbrev pub HaltsAtOnce : World → List Event → HostView → HostView → TogetherFault → Type 0
HaltsAtOnce w events old new halt.OutOfMemory = IsHost new w × (new.store.disk ≡ old.store.disk)
HaltsAtOnce w events old new halt.Lost = LostTogether w events old.store.disk new
HaltsAtOnce w events old new (halt.Host f) =
    (done : List Event) × (dropped : List Event) × (e : Event) × (outcomes : List Outcome) × (v : World)
    × (events ≡ done ++ e ∷ dropped) × AtOnce w done outcomes v old.store.disk new.store.disk × Stopped new.store.disk new v e f

-- the effects of the first outcomes were carried out, so many, and these entries came of it
abbrev pub CarriedSoFar : {C : Type 0} → Relation C → List Outcome → ℕ → At C → List Entry → At C → Type 0
CarriedSoFar R outcomes k s entries t = (followed : List Followed) × FirstOf (CarriesOut R None) outcomes k s followed t × (entries ≡ entries_after followed)

-- the effect of an outcome was carried out, and these entries came of it, up to where this event is due
abbrev pub OneCarried : {C : Type 0} → Relation C → Outcome → At C → List Entry → At C → Type 0
OneCarried R o s entries t = (followed : List Followed) × CarriesOut R None o s followed t × (entries ≡ entries_after followed)

abbrev pub OneUpTo : {C : Type 0} → Relation C → Outcome → At C → List Entry → Event → At C → Type 0
OneUpTo R o s entries e t = (followed : List Followed) × CarriesOut R (Some e) o s followed t × (entries ≡ entries_after followed)

-- the first effects were carried out, and that of the next outcome up to where this event is due
abbrev pub EachUpTo : {C : Type 0} → Relation C → List Outcome → At C → List Entry → Event → At C → Type 0
EachUpTo {C = C} R outcomes s entries e t =
    (k : ℕ) × (followed : List Followed) × (last : List Followed) × (place : At C) × (next : Outcome)
    × FirstOf (CarriesOut R None) outcomes k s followed place × (slice_get outcomes k ≡ Some next) × CarriesOut R (Some e) next place last t
    × (entries ≡ entries_after (followed ++ last))

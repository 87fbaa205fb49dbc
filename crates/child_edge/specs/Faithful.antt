-- Faithful runs: every effect is one call, and every answer one event. (docs/dev/EDGE.md, "A faithful run".)
use Rattle.std.specs.Prelude.{◌≡◌, ℕ, ◌≤◌, zero, suc, Bool, true, false, List, [], ◌∷◌, ◌++◌, Option, Some, None, length, slice_get, ◌⊎◌, nat_lt}
use Rattle.host_events.specs.declared.event.ChildEvent.{ChildEvent}
use Rattle.host_events.specs.declared.event.ChildEvent.TheVariants as child
use Rattle.host_events.specs.declared.event.Event.{Event}
use Rattle.host_events.specs.declared.event.Event.TheVariants.{Child}
use Rattle.host_events.specs.declared.outcome.Effect.{Effect}
use Rattle.host_events.specs.declared.outcome.Effect.TheVariants.{Start, Send, Kill}
use Rattle.host_events.specs.declared.outcome.Outcome.{Outcome}
use Rattle.session_engine.specs.World.{World}
use Rattle.session_engine.specs.Does.{Gives}
use Rattle.disk_model.specs.Disk.{DiskView}
use Rattle.child_edge.specs.Kept.{Kept}
use Rattle.child_calls.specs.declared.seat.Seat.{Seat}
use Rattle.child_edge.specs.Seats.{waits}
use Rattle.child_calls.specs.Calls.{Call, start, send, receive, stop, Answer, done, fault, piece, end, no_memory}

-- The relation of children: those before a call, the call, its answer, and those after it.
abbrev pub Relation : Type 0 → Type 1
Relation C = C → Call → Answer → C → Type 0

-- Where a run stands: what its events led to, the children, and the disk.
pub record At (C : Type 0) : Type 0 where
  pub world : World
  pub children : C
  pub disk : DiskView

abbrev pub at : {C : Type 0} → World → C → DiskView → At C
at w c disk = record { world = w; children = c; disk = disk }

-- An entry of a run's trace: an event, its outcome, and what the call that is its effect gave.
pub record Entry : Type 0 where
  pub event : Event
  pub outcome : Outcome
  pub answer : Option Answer

abbrev pub call_of : Effect → Call
call_of (Start name life words) = start name life words
call_of (Send name life bytes) = send name life bytes
call_of (Kill name life) = stop name life

-- the event of a fault of an effect's call
abbrev pub fault_of : Effect → Event
fault_of (Start name life words) = Child name life child.StartRefused
fault_of (Send name life bytes) = Child name life child.SendFault
fault_of (Kill name life) = Child name life child.StopFault

-- the event that comes next, by what the effect's call was answered
abbrev pub due_of : Option Effect → Option Answer → Option Event
due_of (Some f) (Some done) = None
due_of (Some f) (Some fault) = Some (fault_of f)
due_of (Some f) (Some (piece bytes)) = None
due_of (Some f) (Some end) = None
due_of (Some f) (Some no_memory) = None
due_of (Some f) None = None
due_of None a = None

abbrev pub due_after : Entry → Option Event
due_after b = due_of b.outcome.effect b.answer

-- an effect is one call, and no effect is none
abbrev pub Carried : {C : Type 0} → Relation C → C → Option Effect → Option Answer → C → Type 0
Carried R c None None d = d ≡ c
Carried R c (Some f) (Some a) d = R c (call_of f) a d
Carried R c None (Some a) d = ⊥
Carried R c (Some f) None d = ⊥

-- The event was taken, what it gives is on the disk, and its effect was carried out.
pub record Entries {C : Type 0} (R : Relation C) (s : At C) (e : Event) (b : Entry) (t : At C) : Type 0 where
  pub event : b.event ≡ e
  pub steps : Gives s.world e b.outcome t.world
  pub kept : Kept s.world steps.0 t.world s.disk t.disk
  pub carried : Carried R s.children b.outcome.effect b.answer t.children

-- From where this event is due, if one is, these come, each due by the one before it, up to where that one is due.
abbrev pub Follows : {C : Type 0} → Relation C → At C → Option Event → List Entry → Option Event → At C → Type 0
Follows R s due [] left t = (left ≡ due) × (t ≡ s)
Follows R s None (b ∷ bs) left t = ⊥
Follows {C = C} R s (Some e) (b ∷ bs) left t = (mid : At C) × Entries R s e b mid × Follows R mid (due_after b) bs left t

-- an event and all that comes of it
abbrev pub Served : {C : Type 0} → Relation C → At C → Event → List Entry → At C → Type 0
Served R s e bs t = Follows R s (Some e) bs None t

-- an event and what comes of it, up to where this one is due
abbrev pub ServedUpTo : {C : Type 0} → Relation C → At C → Event → List Entry → Event → At C → Type 0
ServedUpTo R s e bs left t = Follows R s (Some e) bs (Some left) t

-- the first k of these things, one after another, and the entries of all of them
abbrev pub FirstOf : {A S B : Type 0} → (A → S → List B → S → Type 0) → List A → ℕ → S → List B → S → Type 0
FirstOf P xs zero s bs t = (bs ≡ []) × (t ≡ s)
FirstOf {A = A} {S = S} {B = B} P xs (suc k) s bs t =
    (x : A) × (mid : S) × (before : List B) × (last : List B) × (slice_get xs k ≡ Some x) × FirstOf P xs k s before mid × P x mid last t × (bs ≡ before ++ last)

-- each of these things in turn
abbrev pub EachOf : {A S B : Type 0} → (A → S → List B → S → Type 0) → List A → S → List B → S → Type 0
EachOf P xs s bs t = FirstOf P xs (length xs) s bs t

-- the event of what a receive was answered; the last two are none that it gave (`Gave`)
abbrev pub event_of : Answer → ChildEvent
event_of (piece bytes) = child.Piece bytes
event_of end = child.End
event_of fault = child.ReadFault
event_of done = child.ReadFault
event_of no_memory = child.ReadFault

-- a receive gave a piece, the end or a fault: it didn't want memory, and it is never only done
abbrev pub Gave : Answer → Type 0
Gave (piece bytes) = Unit {0}
Gave end = Unit {0}
Gave fault = Unit {0}
Gave done = ⊥
Gave no_memory = ⊥

-- The event of a life in a round: what a receive gave in a round that listens, and `Stalled` in another.
abbrev pub Hears : {C : Type 0} → Relation C → Bool → Seat → C → ChildEvent → C → Type 0
Hears R true seat c event d = (a : Answer) × Gave a × R c (receive seat.name seat.life) a d × (event ≡ event_of a)
Hears R false seat c event d = (event ≡ child.Stalled) × (d ≡ c)

-- How lives are heard in a round: what the children do at a call, and whether the round listens.
pub record Hearing (C : Type 0) : Type 1 where
  pub after : Relation C
  pub listens : Bool

abbrev pub hearing : {C : Type 0} → Relation C → Bool → Hearing C
hearing after listens = record { after = after; listens = listens }

-- the event of a life, and what comes of it, up to where this event is due if one is
abbrev pub Taken : {C : Type 0} → Hearing C → Option Event → Seat → At C → List Entry → At C → Type 0
Taken {C = C} h left seat s bs t =
    (event : ChildEvent) × (mid : C) × Hears h.after h.listens seat s.children event mid × Follows h.after (at s.world mid s.disk) (Some (Child seat.name seat.life event)) bs left t

-- that up to where this event is due
abbrev pub TakenUpTo : {C : Type 0} → Hearing C → Seat → At C → List Entry → Event → At C → Type 0
TakenUpTo h seat s bs left t = Taken h (Some left) seat s bs t

-- a round: each of these lives once, in order
abbrev pub OneRound : {C : Type 0} → Hearing C → List Seat → At C → List Entry → At C → Type 0
OneRound h seats s bs t = EachOf (Taken h None) seats s bs t

-- So many rounds, each of the lives in which an item waits as it begins. The first `most` listen; after them these lives count as
-- stalled.
abbrev pub Rounds : {C : Type 0} → Relation C → ℕ → ℕ → At C → List Entry → At C → Type 0
Rounds R most zero s bs t = (bs ≡ []) × (t ≡ s)
Rounds {C = C} R most (suc n) s bs t =
    (mid : At C) × (before : List Entry) × (last : List Entry) × Rounds R most n s before mid × OneRound (hearing R (nat_lt n most)) (waits mid.world) mid last t × (bs ≡ before ++ last)

-- A wait: rounds until no item waits, or all that listen and one in which those that still wait stall.
abbrev pub Waited : {C : Type 0} → Relation C → ℕ → At C → List Entry → At C → Type 0
Waited R most s bs t = (n : ℕ) × Rounds R most n s bs t × (((waits t.world ≡ []) × (n ≤ most)) ⊎ (n ≡ suc most))

-- Events that are taken together: what they give is durable before a child is called for one of them. (docs/dev/EDGE.md, "A group".)
use Rattle.std.specs.Prelude.{◌≡◌, ◌⊎◌, ℕ, List, [], ◌∷◌, ◌++◌, Option, Some, None, option_map, slice_get, true}
use Rattle.disk_model.specs.Disk.{DiskView, InModel, LeavesOnly, Rises, SameDisk}
use Rattle.recovery.specs.Sheets.{IsSheetOf}
use Rattle.host_events.specs.declared.event.ChildEvent.{ChildEvent}
use Rattle.host_events.specs.declared.event.Event.{Event}
use Rattle.host_events.specs.declared.event.Event.TheVariants.{Child}
use Rattle.host_events.specs.declared.outcome.Outcome.{Outcome}
use Rattle.session_engine.specs.World.{World, life_of, sheet_in}
use Rattle.session_engine.specs.Does.{Runs}
use Rattle.session_engine.specs.Host.{HostView, IsHost, number_in}
use Rattle.child_calls.specs.Calls.{Answer}
use Rattle.child_calls.specs.declared.seat.Seat.{Seat}
use Rattle.child_edge.specs.Edge.{Stopped}
use Rattle.child_edge.specs.Faithful.{Relation, At, at, Entry, Carried, EachOf, FirstOf, Follows, Hears, due_of}
use Rattle.child_edge.specs.Kept.{HoldsSheet}
use Rattle.child_edge.specs.Reported.{reported}
use Rattle.child_edge.specs.declared.together.GaveTogether.{GaveTogether}
use Rattle.child_edge.specs.declared.together.TogetherFault.{TogetherFault}
use Rattle.child_edge.specs.declared.together.TogetherFault.TheVariants as halt

-- From this disk to that one, at every moment each image is one of the worksheet of the first world, or of the second.
abbrev pub LeavesEither : World → World → DiskView → DiskView → Type 0
LeavesEither w v old new = InModel old (LeavesOnly (IsSheetOf (sheet_in w) (sheet_in v)) old.history new.history)

-- Events went through one after another, with these outcomes. What they gave became durable at once: a crash left the worksheet from before
-- them, or that after all of them.
pub record AtOnce (w : World) (events : List Event) (outcomes : List Outcome) (v : World) (old new : DiskView) : Type 0 where
  pub runs : Runs w events outcomes v
  pub same : SameDisk old new
  pub moments : LeavesEither w v old new
  pub holds : HoldsSheet v new

-- What followed an outcome: what the call that is its effect was answered, and the entries of all that came of it.
pub record Followed : Type 0 where
  pub answer : Option Answer
  pub entries : List Entry

-- the entries of all that followed, in order
abbrev pub entries_after : List Followed → List Entry
entries_after [] = []
entries_after (f ∷ fs) = f.entries ++ entries_after fs

-- The entries of events with these outcomes, of which this followed. Where a call wasn't made there is no answer.
abbrev pub group_entries : List Event → List Outcome → List Followed → List Entry
group_entries [] os fs = []
group_entries (e ∷ es) [] fs = []
group_entries (e ∷ es) (o ∷ os) [] = record { event = e; outcome = o; answer = None } ∷ group_entries es os []
group_entries (e ∷ es) (o ∷ os) (f ∷ fs) = record { event = e; outcome = o; answer = f.answer } ∷ group_entries es os fs

-- the trace of such a group: its events first, and then what followed
abbrev pub trace_of : List Event → List Outcome → List Followed → List Entry
trace_of events outcomes followed = group_entries events outcomes followed ++ entries_after followed

-- The effect of an outcome was carried out, and the fault of its call taken with all that came of it, up to where this event is due, if one is.
abbrev pub CarriesOut : {C : Type 0} → Relation C → Option Event → Outcome → At C → List Followed → At C → Type 0
CarriesOut {C = C} R left o s fs t =
    (f : Followed) × (d : C) × (fs ≡ f ∷ []) × Carried R s.children o.effect f.answer d × Follows R (at s.world d s.disk) (due_of o.effect f.answer) f.entries left t

-- Events were taken together, and no child was called until what they gave was durable. Then the effect of each was carried out in turn, with
-- all that came of it.
pub record Together {C : Type 0} (R : Relation C) (s : At C) (events : List Event) (outcomes : List Outcome) (followed : List Followed) (t : At C) : Type 0 where
  pub middle : World
  pub disk : DiskView
  pub kept : AtOnce s.world events outcomes middle s.disk disk
  pub carried : EachOf (CarriesOut R None) outcomes (at middle s.children disk) followed t

-- Events were taken together up to this one, which had a fault that isn't the disk's. Those before it are durable, and no child was called.
pub record StoppedAmong {C : Type 0} (s : At C) (events : List Event) (entries : List Entry) (e : Event) (t : At C) : Type 0 where
  pub done : List Event
  pub dropped : List Event
  pub split : events ≡ done ++ e ∷ dropped
  pub outcomes : List Outcome
  pub kept : AtOnce s.world done outcomes t.world s.disk t.disk
  pub children : t.children ≡ s.children
  pub are : entries ≡ trace_of done outcomes []

-- Events were taken together, and what followed them came up to where this event was due.
pub record CarriedUpTo {C : Type 0} (R : Relation C) (s : At C) (events : List Event) (entries : List Entry) (e : Event) (t : At C) : Type 0 where
  pub outcomes : List Outcome
  pub middle : World
  pub disk : DiskView
  pub kept : AtOnce s.world events outcomes middle s.disk disk
  pub whole : ℕ
  pub followed : List Followed
  pub last : List Followed
  pub place : At C
  pub next : Outcome
  pub are_carried : FirstOf (CarriesOut R None) outcomes whole (at middle s.children disk) followed place
  pub is_next : slice_get outcomes whole ≡ Some next
  pub broken : CarriesOut R (Some e) next place last t
  pub are : entries ≡ trace_of events outcomes (followed ++ last)

-- one of the two
abbrev pub TogetherUpTo : {C : Type 0} → Relation C → At C → List Event → List Entry → Event → At C → Type 0
TogetherUpTo R s events entries e t = StoppedAmong s events entries e t ⊎ CarriedUpTo R s events entries e t

-- The disk failed while events were taken together. The first of them were taken, of none anything is reported, and no child was called: a
-- crash left the worksheet from before them, or that after those. The host is closed; in its memory the worksheet and the lives are as
-- after them.
pub record LostTogether (w : World) (events : List Event) (old : DiskView) (h : HostView) : Type 0 where
  pub taken : List Event
  pub dropped : List Event
  pub split : events ≡ taken ++ dropped
  pub withheld : List Outcome
  pub leads : World
  pub runs : Runs w taken withheld leads
  pub closed : h.closed ≡ true
  pub contents : h.store.sheet.contents ≡ sheet_in leads
  pub numbers : (name : List ℕ) → number_in h.lives name ≡ option_map (λ l. l.number) (life_of leads name)
  pub same : SameDisk old h.store.disk
  pub failed : Rises old.faults h.store.disk.faults
  pub moments : LeavesEither w leads old h.store.disk

-- One receive from the child of this life gave this event.
abbrev pub HearsOne : {C : Type 0} → Relation C → Seat → C → Event → C → Type 0
HearsOne R seat c event d = (said : ChildEvent) × Hears R true seat c said d × (event ≡ Child seat.name seat.life said)

-- Events were taken together, and what came of them leads to where the host and the children are now.
pub record RanTogether {C : Type 0} (R : Relation C) (s : At C) (events : List Event) (h : HostView) (c : C) (gave : GaveTogether) : Type 0 where
  pub followed : List Followed
  pub leads : World
  pub run : Together R s events gave.outcomes.items followed (at leads c h.store.disk)
  pub stands : IsHost h leads
  pub replied : gave.replies.items ≡ reported (entries_after followed)

-- What a fault of that leaves: without memory none of the events was taken.
abbrev pub FailsTogether : {C : Type 0} → Relation C → At C → List Event → HostView → C → TogetherFault → Type 0
FailsTogether R s events h c halt.OutOfMemory = IsHost h s.world × (h.store.disk ≡ s.disk) × (c ≡ s.children)
FailsTogether R s events h c halt.Lost = LostTogether s.world events s.disk h × (c ≡ s.children)
FailsTogether R s events h c (halt.Host f) =
    (entries : List Entry) × (e : Event) × (v : World) × (d : DiskView) × TogetherUpTo R s events entries e (at v c d) × Stopped d h v e f

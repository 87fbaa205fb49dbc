-- What the driver's calls did of events by themselves, and of commands that only change the worksheet.
use Rattle.std.proofs.Common.{◌≡◌, ℕ, List, [], ◌∷◌, ◌++◌, Option, Some, None, refl, sym, subst, Ok, Err}
use Rattle.std.specs.Prelude.{Bool, Result}
use Rattle.std.specs.declared.alloc.Global.{Global}
use Rattle.std.specs.declared.vec.Vec.{Vec}
use Rattle.disk_model.specs.Disk.{DiskView, SameDisk}
use Rattle.host_events.specs.declared.event.Event.{Event}
use Rattle.host_events.specs.declared.outcome.Outcome.{Outcome}
use Rattle.host_events.specs.declared.outcome.HostFault.{HostFault}
use Rattle.host_events.specs.declared.outcome.HostFault.TheVariants as hosts
use Rattle.session_engine.specs.World.{World}
use Rattle.session_engine.specs.Does.{following}
use Rattle.session_engine.specs.Host.{HostView, IsHost, Took}
use Rattle.child_calls.specs.Calls.{Answer}
use Rattle.child_calls.specs.declared.seat.Seat.{Seat}
use Rattle.child_edge.specs.Edge.{Stopped}
use Rattle.child_edge.specs.EditGroups.{FailsEdits, TookEdits}
use Rattle.child_edge.specs.Faithful.{Carried, due_of}
use Rattle.child_edge.specs.Together.{HearsOne}
use Rattle.child_edge.specs.declared.edit_groups.EditsFault.{EditsFault}
use Rattle.child_edge.specs.declared.edit_groups.EditsFault.TheVariants as at_edits
use Rattle.offline_programs.specs.declared.fault.RunFault.{RunFault}
use Rattle.offline_programs.specs.declared.fault.RunFault.TheVariants as fault
use Rattle.driver.specs.Items.{Item, carried, carry, printing, receive, received, take_alone, take_edits, taking_due, took, took_alone}
use Rattle.driver.specs.Place.{RunPlace, Rules}
use Rattle.driver.specs.Steps.{Fails, broken_alone, carries, fault_of_edits, lost_edits, receives, takes_alone, takes_edits, unreceived, untaken_edits}
use Rattle.driver.specs.Runs.{DidSteps, Parts, left_by_answer, lost_there, parts, seen, stopped, works}
use Rattle.driver.proofs.Running.{did_break, did_more, did_one}

-- nothing is due
pub nothing_due : {A C K : Type 0} (R : Rules A C K) (n : ℕ) (rest : List Item) (p : RunPlace A C K) (todo : List Item) (due : Option Event) (x : Parts A C K) → due ≡ None
    → DidSteps R p todo (left_by_answer (λ (d : Option Event). taking_due d ++ rest)) (Ok due) (n, x) → DidSteps R p todo (left_by_answer (λ (done : Unit {0}). rest)) (Ok tt) (n, x)
nothing_due R n rest p todo None x is d = record { steps = d.steps; world = d.world; ran = d.ran; stands = d.stands }
nothing_due R n rest p todo (Some e) x is d = absurd cc

module _ {A C K : Type 0} (R : Rules A C K) (n : ℕ) (rest : List Item) (w : World) (h : HostView) (stands : IsHost h w) (c : C) (k : K) (a : A) where
  abbrev pub place : RunPlace A C K
  place = seen n w (parts h c k a)

  abbrev pub after_event : Outcome → List Item
  after_event o = carry o ∷ rest

  abbrev pub after_carrying : Option Event → List Item
  after_carrying due = taking_due due ++ rest

  pub did_take_event : (e : Event) (g : HostView) (o : Outcome) → SameDisk h.store.disk g.store.disk → Took w e h g o → DidSteps R place (take_alone e ∷ rest) (left_by_answer after_event) (Ok o) (n, parts g c k a)
  did_take_event e g o same t =
      did_one R place (take_alone e ∷ rest) (took_alone e o) (left_by_answer after_event) (Ok o) (following w t.did) (n, parts g c k a)
      (takes_alone e o (following w t.did) g.store.disk rest (t.did, t.may, t.reported, refl) (record { same = same; moments = t.disk; holds = t.stands.stands.images })) t.stands

  pub take_event_failed : (e : Event) (g : HostView) (f : HostFault) → Stopped h.store.disk g w e f → DidSteps R place (take_alone e ∷ rest) (left_by_answer after_event) (Err (fault.Host f)) (n, parts g c k a)
  take_event_failed e g f gone = did_break R place (take_alone e) rest [] after_event (fault.Host f) w (n, parts g c k a) (broken_alone e f g gone) (stopped h.store.disk e f gone)

  pub did_carry : {T : Type 0} (o : Outcome) (answer : Option Answer) (d : C) (due : Option Event) (left : Result T RunFault → List Item) (r : Result T RunFault) (last : ℕ × Parts A C K)
      → Carried R.sources.after c o.effect answer d → due ≡ due_of o.effect answer
      → DidSteps R (seen n w (parts h d k a)) (printing None (o ∷ []) [] ++ taking_due due ++ rest) left r last → DidSteps R place (carry o ∷ rest) left r last
  did_carry o answer d due left r last went is did =
      did_more R place (carry o ∷ rest) (carried o answer) (printing None (o ∷ []) [] ++ taking_due (due_of o.effect answer) ++ rest) (seen n w (parts h d k a)) left r last
      (carries o answer d rest went)
      (subst (λ (x : Option Event). DidSteps R (seen n w (parts h d k a)) (printing None (o ∷ []) [] ++ taking_due x ++ rest) left r last) is did)

  -- what was printed of an event, as what is due then
  pub due_then : (p : RunPlace A C K) (todo : List Item) (due : Option Event) (last : ℕ × Parts A C K) → DidSteps R p todo (left_by_answer (λ (done : Unit {0}). taking_due due ++ rest)) (Ok tt) last
      → DidSteps R p todo (left_by_answer after_carrying) (Ok due) last
  due_then p todo due last d = record { steps = d.steps; world = d.world; ran = d.ran; stands = d.stands }

  pub did_receive : {T : Type 0} (seat : Seat) (e : Event) (d : C) (left : Result T RunFault → List Item) (r : Result T RunFault) (last : ℕ × Parts A C K) → HearsOne R.sources.after seat c e d
      → DidSteps R (seen n w (parts h d k a)) (take_alone e ∷ rest) left r last → DidSteps R place (receive seat ∷ rest) left r last
  did_receive seat e d left r last was did =
      did_more R place (receive seat ∷ rest) (received e) (take_alone e ∷ rest) (seen n w (parts h d k a)) left r last (receives seat e d rest was) did

  pub receive_failed : (seat : Seat) (d : C) → d ≡ c → DidSteps R place (receive seat ∷ rest) (left_by_answer (λ (done : Unit {0}). rest)) (Err fault.OutOfMemory) (n, parts h d k a)
  receive_failed seat d same =
      subst (λ (y : C). DidSteps R place (receive seat ∷ rest) (left_by_answer (λ (done : Unit {0}). rest)) (Err fault.OutOfMemory) (n, parts h y k a)) (sym same)
      (did_break R place (receive seat) rest [] (λ (done : Unit {0}). rest) fault.OutOfMemory w (n, parts h c k a) (unreceived seat) (works stands))

  abbrev pub after_edits : Vec Outcome Global → List Item
  after_edits outcomes = printing None outcomes.items [] ++ rest

  pub did_edits : (up_to : Bool) (events : List Event) (g : HostView) (outcomes : Vec Outcome Global) → TookEdits up_to w events h g outcomes.items
      → DidSteps R place (take_edits up_to events ∷ rest) (left_by_answer after_edits) (Ok outcomes) (n, parts g c k a)
  did_edits up_to events g outcomes t =
      did_one R place (take_edits up_to events ∷ rest) (took t.done outcomes.items []) (left_by_answer after_edits) (Ok outcomes) t.leads (n, parts g c k a)
      (takes_edits up_to events t.done outcomes.items t.leads g.store.disk rest t.first t.taken) t.stands

  pub edits_failed : (up_to : Bool) (events : List Event) (g : HostView) (f : EditsFault) → FailsEdits up_to w events h g f
      → DidSteps R place (take_edits up_to events ∷ rest) (left_by_answer after_edits) (Err (fault_of_edits f)) (n, parts g c k a)
  edits_failed up_to events g at_edits.OutOfMemory (goes_on, disk) =
      did_break R place (take_edits up_to events) rest [] after_edits fault.OutOfMemory w (n, parts g c k a)
      (subst (λ (x : DiskView). Fails R place (take_edits up_to events) [] fault.OutOfMemory (record place { disk = x })) (sym disk) (untaken_edits up_to events)) (works goes_on)
  edits_failed up_to events g at_edits.Lost l =
      did_break R place (take_edits up_to events) rest [] after_edits (fault.Host hosts.Disk) w (n, parts g c k a) (lost_edits up_to events g l) (lost_there events h.store.disk l.lost)

-- What events that were taken as one group leave of the disk, with all that followed.
use Rattle.std.proofs.Common.{◌≡◌, inl, inr, ℕ, zero, suc, List, [], ◌∷◌, ◌++◌, Option, Some, None, refl, ap, sym, ◌∙◌, subst, append-nil, length}
use Rattle.disk_model.specs.Disk.{DiskView}
use Rattle.host_events.specs.declared.event.Event.{Event}
use Rattle.host_events.specs.declared.outcome.Outcome.{Outcome}
use Rattle.session_engine.specs.World.{World}
use Rattle.session_engine.specs.Does.{Runs}
use Rattle.child_edge.specs.Faithful.{Relation, At, at, Entry, FirstOf, due_of}
use Rattle.child_edge.specs.Moments.{events_of, outcomes_of}
use Rattle.child_edge.specs.Together.{AtOnce, CarriesOut, Followed, Together, TogetherUpTo, entries_after, group_entries, trace_of}
use Rattle.child_edge.proofs.Gates.{following-append}
use Rattle.child_edge.proofs.Timeline.{Goes, goes_on_by, follows-goes}
use Rattle.driver.proofs.Courses.{Course, course_on, either_moments, goes_course}

group-events : (w : World) (es : List Event) (os : List Outcome) (v : World) (fs : List Followed) → Runs w es os v → events_of (group_entries es os fs) ≡ es
group-events w [] [] v fs runs = refl
group-events w [] (o ∷ os) v fs runs = absurd runs
group-events w (e ∷ es) [] v fs runs = absurd runs
group-events w (e ∷ es) (o ∷ os) v [] runs = ap (λ (x : List Event). e ∷ x) (group-events runs.0 es os v [] runs.2)
group-events w (e ∷ es) (o ∷ os) v (f ∷ fs) runs = ap (λ (x : List Event). e ∷ x) (group-events runs.0 es os v fs runs.2)

group-outcomes : (w : World) (es : List Event) (os : List Outcome) (v : World) (fs : List Followed) → Runs w es os v → outcomes_of (group_entries es os fs) ≡ os
group-outcomes w [] [] v fs runs = refl
group-outcomes w [] (o ∷ os) v fs runs = absurd runs
group-outcomes w (e ∷ es) [] v fs runs = absurd runs
group-outcomes w (e ∷ es) (o ∷ os) v [] runs = ap (λ (x : List Outcome). o ∷ x) (group-outcomes runs.0 es os v [] runs.2)
group-outcomes w (e ∷ es) (o ∷ os) v (f ∷ fs) runs = ap (λ (x : List Outcome). o ∷ x) (group-outcomes runs.0 es os v fs runs.2)

module _ {C : Type 0} (R : Relation C) where
  one-goes : (left : Option Event) (o : Outcome) (s : At C) (fs : List Followed) (t : At C) → CarriesOut R left o s fs t → Goes s.world s.disk (entries_after fs) t.world t.disk
  one-goes left o s fs t p =
      subst (λ (bs : List Entry). Goes s.world s.disk bs t.world t.disk) (sym (append-nil p.0.entries) ∙ sym (ap entries_after p.2))
      (follows-goes R (at s.world p.1 s.disk) (due_of o.effect p.0.answer) p.0.entries left t p.4)

  carried-goes : (os : List Outcome) (k : ℕ) (s : At C) (fs : List Followed) (t : At C) → FirstOf (CarriesOut R None) os k s fs t → Goes s.world s.disk (entries_after fs) t.world t.disk
  carried-goes os zero s fs t p =
      subst (λ (bs : List Entry). Goes s.world s.disk bs t.world t.disk) (sym (ap entries_after p.0)) (ap (λ (x : At C). x.world) p.1, ap (λ (x : At C). x.disk) p.1)
  carried-goes os (suc k) s fs t p =
      subst (λ (bs : List Entry). Goes s.world s.disk bs t.world t.disk) (sym (ap entries_after p.7 ∙ following-append p.2 p.3))
      (goes_on_by s.world s.disk (entries_after p.2) p.1.world p.1.disk (entries_after p.3) t.world t.disk (carried-goes os k s p.2 p.1 p.5) (one-goes None p.0 p.1 p.3 t p.6))

kept-course : (w : World) (es : List Event) (os : List Outcome) (fs : List Followed) (v : World) (d f : DiskView) → AtOnce w es os v d f → Course w d (group_entries es os fs) v f
kept-course w es os fs v d f kept =
    let runs : Runs w (events_of (group_entries es os fs)) (outcomes_of (group_entries es os fs)) v =
    subst (λ (x : List Event). Runs w x (outcomes_of (group_entries es os fs)) v) (sym (group-events w es os v fs kept.runs))
    (subst (λ (x : List Outcome). Runs w es x v) (sym (group-outcomes w es os v fs kept.runs)) kept.runs) in
    record { runs = runs; same = kept.same; moments = λ held. either_moments w (events_of (group_entries es os fs)) (outcomes_of (group_entries es os fs)) v d f runs kept.moments; holds = λ held. kept.holds }

trace-course : (w : World) (es : List Event) (os : List Outcome) (fs : List Followed) (v : World) (d e : DiskView) (u : World) (f : DiskView) → AtOnce w es os v d e → Goes v e (entries_after fs) u f → Course w d (trace_of es os fs) u f
trace-course w es os fs v d e u f kept goes =
    course_on w d (group_entries es os fs) v e (entries_after fs) u f (kept-course w es os fs v d e kept) (goes_course v e (entries_after fs) u f goes)

-- all at once, of which nothing followed
pub at_once_course : (w : World) (es : List Event) (os : List Outcome) (v : World) (d e : DiskView) → AtOnce w es os v d e → Course w d (trace_of es os []) v e
at_once_course w es os v d e kept = trace-course w es os [] v d e v e kept (refl, refl)

module _ {C : Type 0} (R : Relation C) (s : At C) (events : List Event) where
  pub together_course : (os : List Outcome) (fs : List Followed) (t : At C) → Together R s events os fs t → Course s.world s.disk (trace_of events os fs) t.world t.disk
  together_course os fs t p =
      trace-course s.world events os fs p.middle s.disk p.disk t.world t.disk p.kept (carried-goes R os (length os) (at p.middle s.children p.disk) fs t p.carried)

  pub up_to_course : (entries : List Entry) (e : Event) (t : At C) → TogetherUpTo R s events entries e t → Course s.world s.disk entries t.world t.disk
  up_to_course entries e t (inl p) =
      subst (λ (bs : List Entry). Course s.world s.disk bs t.world t.disk) (sym p.are) (trace-course s.world p.done p.outcomes [] t.world s.disk t.disk t.world t.disk p.kept (refl, refl))
  up_to_course entries e t (inr p) =
      subst (λ (bs : List Entry). Course s.world s.disk bs t.world t.disk) (sym p.are)
      (trace-course s.world events p.outcomes (p.followed ++ p.last) p.middle s.disk p.disk t.world t.disk p.kept
      (subst (λ (bs : List Entry). Goes p.middle p.disk bs t.world t.disk) (sym (following-append p.followed p.last))
      (goes_on_by p.middle p.disk (entries_after p.followed) p.place.world p.place.disk (entries_after p.last) t.world t.disk
      (carried-goes R p.outcomes p.whole (at p.middle s.children p.disk) p.followed p.place p.are_carried) (one-goes R (Some e) p.next p.place p.last t p.broken))))

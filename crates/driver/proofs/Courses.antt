-- Where entries of a run led, what they left of the disk, and how such runs go on one after another.
use Rattle.std.proofs.Common.{◌≡◌, ⊎_elim, List, [], ◌∷◌, ◌++◌, refl, ap, sym, ◌∙◌, subst, append_assoc, append-nil}
use Rattle.std.specs.Bool.{IsTrue}
use Rattle.disk_model.specs.Disk.{DiskView, Image, SameDisk}
use Rattle.disk_model.specs.inside.Moments.{goes_on, weakens}
use Rattle.recovery.specs.Sheets.{IsSheetImage, IsSheetOf}
use Rattle.host_events.specs.declared.event.Event.{Event}
use Rattle.host_events.specs.declared.outcome.Outcome.{Outcome}
use Rattle.host_events.specs.declared.outcome.HostFault.{HostFault}
use Rattle.host_events.specs.declared.outcome.HostFault.TheVariants as hosts
use Rattle.session_engine.specs.World.{World, sheet_in}
use Rattle.session_engine.specs.Does.{Runs}
use Rattle.session_engine.specs.Host.{HostView}
use Rattle.session_engine.specs.Crash.{LeftAmong, Moments, MomentsBefore}
use Rattle.child_edge.specs.Faithful.{Entry}
use Rattle.child_edge.specs.Kept.{HoldsSheet}
use Rattle.child_edge.specs.Edge.{Stopped}
use Rattle.child_edge.specs.Moments.{events_of, outcomes_of, LeavesFronts, LeavesFrontsUpTo}
use Rattle.child_edge.proofs.Faulting.{same-at, same-on}
use Rattle.child_edge.proofs.Timeline.{Goes, goes_holds, goes_leaves, goes_up_to}
use Rattle.child_edge.specs.Together.{LeavesEither}

-- From this world and disk these entries led to those. At every moment each image was one of the worksheet after some of the first of
-- them, and at the end each is one of the worksheet after all.
pub record Course (w : World) (d : DiskView) (bs : List Entry) (v : World) (f : DiskView) : Type 0 where
  pub runs : Runs w (events_of bs) (outcomes_of bs) v
  pub same : SameDisk d f
  pub moments : HoldsSheet w d → LeavesFronts w bs d f
  pub holds : HoldsSheet w d → HoldsSheet v f

-- Runs and images.

pub runs_on : (w : World) (es : List Event) (os : List Outcome) (m : World) (fs : List Event) (ps : List Outcome) (v : World) → Runs w es os m → Runs m fs ps v → Runs w (es ++ fs) (os ++ ps) v
runs_on w [] [] m fs ps v first after = subst (λ (x : World). Runs x fs ps v) first after
runs_on w [] (o ∷ os) m fs ps v first after = absurd first
runs_on w (e ∷ es) [] m fs ps v first after = absurd first
runs_on w (e ∷ es) (o ∷ os) m fs ps v first after = (first.0, first.1, runs_on first.0 es os m fs ps v first.2 after)

-- an image of the worksheet before all events
pub left_before : (w : World) (es : List Event) (os : List Outcome) (i : Image) → IsSheetImage (sheet_in w) i → LeftAmong w es os i
left_before w es os i image = record { done = []; more = es; split = refl; outcomes = []; later = os; first = refl; leads = w; runs = refl; image = image }

-- an image of the worksheet after all of them
pub left_after : (w : World) (es : List Event) (os : List Outcome) (v : World) (i : Image) → Runs w es os v → IsSheetImage (sheet_in v) i → LeftAmong w es os i
left_after w es os v i runs image =
    record { done = es; more = []; split = sym (append-nil es); outcomes = os; later = []; first = sym (append-nil os); leads = v; runs = runs; image = image }

-- what some events leave, they leave with more after them
pub left_within : (w : World) (es fs : List Event) (os ps : List Outcome) (i : Image) → LeftAmong w es os i → LeftAmong w (es ++ fs) (os ++ ps) i
left_within w es fs os ps i l = record {
  done = l.done;
  more = l.more ++ fs;
  split = ap (λ (x : List Event). x ++ fs) l.split ∙ append_assoc l.done l.more fs;
  outcomes = l.outcomes;
  later = l.later ++ ps;
  first = ap (λ (x : List Outcome). x ++ ps) l.first ∙ append_assoc l.outcomes l.later ps;
  leads = l.leads;
  runs = l.runs;
  image = l.image;
}

-- what events leave, they leave after others
pub left_further : (w : World) (es : List Event) (os : List Outcome) (m : World) (fs : List Event) (ps : List Outcome) (i : Image) → Runs w es os m → LeftAmong m fs ps i → LeftAmong w (es ++ fs) (os ++ ps) i
left_further w es os m fs ps i runs l = record {
  done = es ++ l.done;
  more = l.more;
  split = ap (λ (x : List Event). es ++ x) l.split ∙ sym (append_assoc es l.done l.more);
  outcomes = os ++ l.outcomes;
  later = l.later;
  first = ap (λ (x : List Outcome). os ++ x) l.first ∙ sym (append_assoc os l.outcomes l.later);
  leads = l.leads;
  runs = runs_on w es os m l.done l.outcomes l.leads runs l.runs;
  image = l.image;
}

pub moments_on : (w : World) (es : List Event) (os : List Outcome) (m : World) (fs : List Event) (ps : List Outcome) (d e f : DiskView) → Runs w es os m → SameDisk d e → Moments w es os d e → Moments m fs ps e f
    → Moments w (es ++ fs) (os ++ ps) d f
moments_on w es os m fs ps d e f runs same first after = λ model.
    goes_on (LeftAmong w (es ++ fs) (os ++ ps)) d.history e.history f.history
    (weakens (LeftAmong w es os) (LeftAmong w (es ++ fs) (os ++ ps)) d.history e.history (λ i l. left_within w es fs os ps i l) (first model))
    (weakens (LeftAmong m fs ps) (LeftAmong w (es ++ fs) (os ++ ps)) e.history f.history (λ i l. left_further w es os m fs ps i runs l) (after (subst IsTrue (sym same.keeps_model) model)))

-- where events left their worksheet or the one before them
pub either_moments : (w : World) (es : List Event) (os : List Outcome) (v : World) (d f : DiskView) → Runs w es os v → LeavesEither w v d f → Moments w es os d f
either_moments w es os v d f runs either = λ model.
    weakens (IsSheetOf (sheet_in w) (sheet_in v)) (LeftAmong w es os) d.history f.history (λ i image. ⊎_elim (left_before w es os i) (left_after w es os v i runs) image) (either model)

-- Courses.

pub events_append : (bs cs : List Entry) → events_of (bs ++ cs) ≡ events_of bs ++ events_of cs
events_append [] cs = refl
events_append (b ∷ bs) cs = ap (λ (l : List Event). b.event ∷ l) (events_append bs cs)

pub outcomes_append : (bs cs : List Entry) → outcomes_of (bs ++ cs) ≡ outcomes_of bs ++ outcomes_of cs
outcomes_append [] cs = refl
outcomes_append (b ∷ bs) cs = ap (λ (l : List Outcome). b.outcome ∷ l) (outcomes_append bs cs)

pub course_on : (w : World) (d : DiskView) (bs : List Entry) (m : World) (e : DiskView) (cs : List Entry) (v : World) (f : DiskView) → Course w d bs m e → Course m e cs v f → Course w d (bs ++ cs) v f
course_on w d bs m e cs v f p q = record {
  runs = subst (λ (es : List Event). Runs w es (outcomes_of (bs ++ cs)) v) (sym (events_append bs cs))
      (subst (λ (os : List Outcome). Runs w (events_of bs ++ events_of cs) os v) (sym (outcomes_append bs cs))
      (runs_on w (events_of bs) (outcomes_of bs) m (events_of cs) (outcomes_of cs) v p.runs q.runs));
  same = same-on d e f p.same q.same;
  moments = λ held. subst (λ (es : List Event). Moments w es (outcomes_of (bs ++ cs)) d f) (sym (events_append bs cs))
      (subst (λ (os : List Outcome). Moments w (events_of bs ++ events_of cs) os d f) (sym (outcomes_append bs cs))
      (moments_on w (events_of bs) (outcomes_of bs) m (events_of cs) (outcomes_of cs) d e f p.runs p.same (p.moments held) (q.moments (p.holds held))));
  holds = λ held. q.holds (p.holds held);
}

goes_runs : (w : World) (d : DiskView) (bs : List Entry) (v : World) (f : DiskView) → Goes w d bs v f → Runs w (events_of bs) (outcomes_of bs) v
goes_runs w d [] v f p = p.0
goes_runs w d (b ∷ bs) v f p = (p.0, p.2, goes_runs p.0 p.1 bs v f p.4)

keeps_disk : (w : World) (d : DiskView) (bs : List Entry) (v : World) (f : DiskView) → Goes w d bs v f → SameDisk d f
keeps_disk w d [] v f p = subst (SameDisk d) (sym p.1) (same-at d)
keeps_disk w d (b ∷ bs) v f p = same-on d p.1 f p.3.same (keeps_disk p.0 p.1 bs v f p.4)

-- where each event was on the disk before the next
pub goes_course : (w : World) (d : DiskView) (bs : List Entry) (v : World) (f : DiskView) → Goes w d bs v f → Course w d bs v f
goes_course w d bs v f p =
    record { runs = goes_runs w d bs v f p; same = keeps_disk w d bs v f p; moments = λ held. goes_leaves w d bs v f held p; holds = λ held. goes_holds w d bs v f held p }

-- up to an event that had this fault
pub course_up_to : (w : World) (d : DiskView) (bs : List Entry) (v : World) (f : DiskView) (e : Event) (fault : HostFault) (h : HostView) → HoldsSheet w d → Course w d bs v f → Stopped f h v e fault
    → LeavesFrontsUpTo w bs e fault d h.store.disk
course_up_to w d bs v f e fault h held p stopped = go fault (goes_up_to v f [] v f e fault h stopped.held (refl, refl) stopped)
  where
    on : (os : List Outcome) → Moments v (e ∷ []) os f h.store.disk → Moments w (events_of bs ++ e ∷ []) (outcomes_of bs ++ os) d h.store.disk
    on os after = moments_on w (events_of bs) (outcomes_of bs) v (e ∷ []) os d f h.store.disk p.runs p.same (p.moments held) after

    alone : Moments v (e ∷ []) [] f h.store.disk → Moments w (events_of bs ++ e ∷ []) (outcomes_of bs) d h.store.disk
    alone after = subst (λ (os : List Outcome). Moments w (events_of bs ++ e ∷ []) os d h.store.disk) (append-nil (outcomes_of bs)) (on [] after)

    go : (x : HostFault) → MomentsBefore v (e ∷ []) [] x f h.store.disk → MomentsBefore w (events_of bs ++ e ∷ []) (outcomes_of bs) x d h.store.disk
    go hosts.Closed q = absurd q
    go hosts.Disk q = (q.0, on (q.0 ∷ []) q.1)
    go hosts.OutOfMemory q = alone q
    go hosts.JournalFull q = alone q

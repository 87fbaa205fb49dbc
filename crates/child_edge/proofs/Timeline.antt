-- A run is a timeline of its disk.
use Rattle.std.proofs.Common.{◌≡◌, ⊎_elim, ℕ, zero, suc, Bool, List, [], ◌∷◌, ◌++◌, Option, Some, None, refl, sym, ap, subst, append-nil}
use Rattle.std.specs.Bool.{IsTrue}
use Rattle.disk_model.specs.Disk.{DiskView, Image, InModel, LeavesOnly}
use Rattle.disk_model.specs.inside.Moments.{started, weakens, goes_on}
use Rattle.recovery.specs.Sheets.{IsSheetImage}
use Rattle.host_events.specs.declared.event.Event.{Event}
use Rattle.host_events.specs.declared.event.Event.TheVariants.{Child}
use Rattle.host_events.specs.declared.outcome.Outcome.{Outcome}
use Rattle.host_events.specs.declared.outcome.HostFault.{HostFault}
use Rattle.host_events.specs.declared.outcome.HostFault.TheVariants as hosts
use Rattle.session_engine.specs.World.{World, sheet_in}
use Rattle.session_engine.specs.Does.{Gives, following}
use Rattle.session_engine.specs.Host.{HostView, OnDisk}
use Rattle.session_engine.specs.Faults.{CauseOf}
use Rattle.session_engine.specs.Crash.{LeftAmong, Moments}
use Rattle.session_engine.proofs.Playing.{EitherSheet, either_sheet}
use Rattle.child_edge.specs.Kept.{HoldsSheet, Kept}
use Rattle.host_events.specs.declared.reply.Reply.{Reply}
use Rattle.child_edge.specs.Faithful.{Relation, At, at, Entry, Entries, Follows, FirstOf, Taken, Rounds, Served, ServedUpTo, Waited, due_after, hearing}
use Rattle.child_edge.specs.Broken.{WaitSoFar, WaitStopped}
use Rattle.child_edge.specs.Seats.{waits}
use Rattle.child_calls.specs.declared.seat.Seat.{Seat}
use Rattle.child_edge.specs.Edge.{Ran, BrokeOff, Stopped}
use Rattle.child_edge.specs.Moments.{events_of, outcomes_of, LeavesFronts, LeavesFrontsUpTo, RanFrom, BrokeFrom}

-- From this world and disk these entries led to those, whatever the children did.
abbrev pub Goes : World → DiskView → List Entry → World → DiskView → Type 0
Goes w d [] v f = (v ≡ w) × (f ≡ d)
Goes w d (b ∷ bs) v f = (mid : World) × (now : DiskView) × (gives : Gives w b.event b.outcome mid) × Kept w gives.0 mid d now × Goes mid now bs v f

-- each form goes

pub goes_on_by : (w : World) (d : DiskView) (bs : List Entry) (m : World) (e : DiskView) (cs : List Entry) (v : World) (f : DiskView) → Goes w d bs m e → Goes m e cs v f → Goes w d (bs ++ cs) v f
goes_on_by w d [] m e cs v f p q = subst (λ (x : World). Goes x d cs v f) p.0 (subst (λ (x : DiskView). Goes m x cs v f) p.1 q)
goes_on_by w d (b ∷ bs) m e cs v f p q = (p.0, p.1, p.2, p.3, goes_on_by p.0 p.1 bs m e cs v f p.4 q)

module _ {C : Type 0} (R : Relation C) where
  entry-goes : (s : At C) (e : Event) (b : Entry) (t : At C) → Entries R s e b t → (gives : Gives s.world b.event b.outcome t.world) × Kept s.world gives.0 t.world s.disk t.disk
  entry-goes s e b t p =
      let q : Entries R s b.event b t = subst (λ (x : Event). Entries R s x b t) (sym p.event) p in
      (q.steps, q.kept)

  pub follows-goes : (s : At C) (due : Option Event) (bs : List Entry) (left : Option Event) (t : At C) → Follows R s due bs left t → Goes s.world s.disk bs t.world t.disk
  follows-goes s due [] left t p = (ap (λ (x : At C). x.world) p.1, ap (λ (x : At C). x.disk) p.1)
  follows-goes s None (b ∷ bs) left t p = absurd p
  follows-goes s (Some e) (b ∷ bs) left t p =
      let one = entry-goes s e b p.0 p.1 in
      (p.0.world, p.0.disk, one.0, one.1, follows-goes p.0 (due_after b) bs left t p.2)

  pub first-goes : {A : Type 0} (P : A → At C → List Entry → At C → Type 0) → ((x : A) (s : At C) (bs : List Entry) (t : At C) → P x s bs t → Goes s.world s.disk bs t.world t.disk)
      → (xs : List A) (k : ℕ) (s : At C) (bs : List Entry) (t : At C) → FirstOf P xs k s bs t → Goes s.world s.disk bs t.world t.disk
  first-goes P each xs zero s bs t p =
      subst (λ (l : List Entry). Goes s.world s.disk l t.world t.disk) (sym p.0) (ap (λ (x : At C). x.world) p.1, ap (λ (x : At C). x.disk) p.1)
  first-goes P each xs (suc k) s bs t p =
      subst (λ (l : List Entry). Goes s.world s.disk l t.world t.disk) (sym p.7)
      (goes_on_by s.world s.disk p.2 p.1.world p.1.disk p.3 t.world t.disk (first-goes P each xs k s p.2 p.1 p.5) (each p.0 p.1 p.3 t p.6))

  pub taken-goes : (listens : Bool) (left : Option Event) (seat : Seat) (s : At C) (bs : List Entry) (t : At C)
      → Taken (hearing R listens) left seat s bs t → Goes s.world s.disk bs t.world t.disk
  taken-goes listens left seat s bs t p = follows-goes (at s.world p.1 s.disk) (Some (Child seat.name seat.life p.0)) bs left t p.3

  pub rounds-goes : (most n : ℕ) (s : At C) (bs : List Entry) (t : At C) → Rounds R most n s bs t → Goes s.world s.disk bs t.world t.disk
  rounds-goes most zero s bs t p =
      subst (λ (l : List Entry). Goes s.world s.disk l t.world t.disk) (sym p.0) (ap (λ (x : At C). x.world) p.1, ap (λ (x : At C). x.disk) p.1)
  rounds-goes most (suc n) s bs t p =
      subst (λ (l : List Entry). Goes s.world s.disk l t.world t.disk) (sym p.5)
      (goes_on_by s.world s.disk p.1 p.0.world p.0.disk p.2 t.world t.disk (rounds-goes most n s p.1 p.0 p.3)
      (first-goes (Taken (hearing R _) None) (λ x. taken-goes _ None x) (waits p.0.world) _ p.0 p.2 t p.4))

  pub so-far-goes : (most : ℕ) (s : At C) (bs : List Entry) (t : At C) → WaitSoFar R most s bs t → Goes s.world s.disk bs t.world t.disk
  so-far-goes most s bs t p =
      subst (λ (l : List Entry). Goes s.world s.disk l t.world t.disk) (sym p.entries)
      (goes_on_by s.world s.disk p.before p.mid.world p.mid.disk p.last t.world t.disk (rounds-goes most p.whole s p.before p.mid p.rounds)
      (first-goes (Taken (hearing R _) None) (λ x. taken-goes _ None x) (waits p.mid.world) p.part.whole p.mid p.last t p.part.are_done))

  pub stopped-goes : (most : ℕ) (s : At C) (bs : List Entry) (e : Event) (t : At C) → WaitStopped R most s bs e t → Goes s.world s.disk bs t.world t.disk
  stopped-goes most s bs e t p =
      let q = p.part in
      let round : Goes p.mid.world p.mid.disk p.last t.world t.disk = subst (λ (l : List Entry). Goes p.mid.world p.mid.disk l t.world t.disk) (sym q.entries)
      (goes_on_by p.mid.world p.mid.disk q.before q.mid.world q.mid.disk q.last t.world t.disk
      (first-goes (Taken (hearing R _) None) (λ x. taken-goes _ None x) (waits p.mid.world) q.whole p.mid q.before q.mid q.are_done)
      (taken-goes _ (Some e) q.seat q.mid q.last t q.broken)) in
      subst (λ (l : List Entry). Goes s.world s.disk l t.world t.disk) (sym p.entries)
      (goes_on_by s.world s.disk p.before p.mid.world p.mid.disk p.last t.world t.disk (rounds-goes most p.whole s p.before p.mid p.rounds) round)

-- what a timeline leaves

left_none : (w : World) (es : List Event) (os : List Outcome) (i : Image) → IsSheetImage (sheet_in w) i → LeftAmong w es os i
left_none w es os i image = record { done = []; more = es; split = refl; outcomes = []; later = os; first = refl; leads = w; runs = refl; image = image }

left_more : (w : World) (e : Event) (o : Outcome) (mid : World) (es : List Event) (os : List Outcome) (i : Image) → Gives w e o mid → LeftAmong mid es os i → LeftAmong w (e ∷ es) (o ∷ os) i
left_more w e o mid es os i gives l = record {
  done = e ∷ l.done;
  more = l.more;
  split = ap (λ (x : List Event). e ∷ x) l.split;
  outcomes = o ∷ l.outcomes;
  later = l.later;
  first = ap (λ (x : List Outcome). o ∷ x) l.first;
  leads = l.leads;
  runs = (mid, gives, l.runs);
  image = l.image;
}

-- the moments of one event, whatever comes after it
one_event : (w : World) (e : Event) (o : Outcome) (mid : World) (es : List Event) (os : List Outcome) (old new : DiskView) (gives : Gives w e o mid)
    → HoldsSheet w old → OnDisk w.ops gives.0.again gives.0.op old new → InModel old (LeavesOnly (LeftAmong w (e ∷ es) (o ∷ os)) old.history new.history)
one_event w e o mid es os old new gives holds disk model = weakens (EitherSheet w gives.0) (LeftAmong w (e ∷ es) (o ∷ os)) old.history new.history
    (λ i image. ⊎_elim
    (left_none w (e ∷ es) (o ∷ os) i)
    (λ after. left_more w e o mid es os i gives (left_none mid es os i (subst (λ (v : World). IsSheetImage (sheet_in v) i) (sym gives.3) after)))
    image)
    (either_sheet w gives.0 old new holds disk model)

-- the moments of a timeline, and then those that these events leave
pub goes_then : (w : World) (d : DiskView) (bs : List Entry) (v : World) (f : DiskView) (es : List Event) (os : List Outcome) (g : DiskView) → HoldsSheet w d → Goes w d bs v f
    → InModel f (LeavesOnly (LeftAmong v es os) f.history g.history) → InModel d (LeavesOnly (LeftAmong w (events_of bs ++ es) (outcomes_of bs ++ os)) d.history g.history)
goes_then w d [] v f es os g holds p last =
    subst (λ (x : World). InModel d (LeavesOnly (LeftAmong x es os) d.history g.history)) p.0 (subst (λ (x : DiskView). InModel x (LeavesOnly (LeftAmong v es os) x.history g.history)) p.1 last)
goes_then w d (b ∷ bs) v f es os g holds p last = λ model.
    goes_on (LeftAmong w (events_of (b ∷ bs) ++ es) (outcomes_of (b ∷ bs) ++ os)) d.history p.1.history g.history
    (one_event w b.event b.outcome p.0 (events_of bs ++ es) (outcomes_of bs ++ os) d p.1 p.2 holds p.3.moments model)
    (weakens (LeftAmong p.0 (events_of bs ++ es) (outcomes_of bs ++ os)) (LeftAmong w (events_of (b ∷ bs) ++ es) (outcomes_of (b ∷ bs) ++ os)) p.1.history g.history
    (λ i l. left_more w b.event b.outcome p.0 (events_of bs ++ es) (outcomes_of bs ++ os) i p.2 l)
    (goes_then p.0 p.1 bs v f es os g p.3.holds p.4 last (subst IsTrue (sym p.3.same.keeps_model) model)))

-- the sheet that a timeline leaves is that of its end
pub goes_holds : (w : World) (d : DiskView) (bs : List Entry) (v : World) (f : DiskView) → HoldsSheet w d → Goes w d bs v f → HoldsSheet v f
goes_holds w d [] v f holds p = subst (λ (x : World). HoldsSheet x f) (sym p.0) (subst (λ (x : DiskView). HoldsSheet w x) (sym p.1) holds)
goes_holds w d (b ∷ bs) v f holds p = goes_holds p.0 p.1 bs v f p.3.holds p.4

pub goes_leaves : (w : World) (d : DiskView) (bs : List Entry) (v : World) (f : DiskView) → HoldsSheet w d → Goes w d bs v f → LeavesFronts w bs d f
goes_leaves w d bs v f holds p =
    subst (λ (es : List Event). Moments w es (outcomes_of bs) d f) (append-nil (events_of bs))
    (subst (λ (os : List Outcome). Moments w (events_of bs ++ []) os d f) (append-nil (outcomes_of bs))
    (goes_then w d bs v f [] [] f holds p (λ model. started (LeftAmong v [] []) f.history (λ i image. left_none v [] [] i (goes_holds w d bs v f holds p model i image)))))

-- up to an event that had this fault
pub goes_up_to : (w : World) (d : DiskView) (bs : List Entry) (v : World) (f : DiskView) (e : Event) (fault : HostFault) (h : HostView) → HoldsSheet w d → Goes w d bs v f → Stopped f h v e fault
    → LeavesFrontsUpTo w bs e fault d h.store.disk
goes_up_to w d bs v f e fault h holds p stopped = go fault stopped.cause
  where
    unmoved : h.store.disk ≡ f → Moments w (events_of bs ++ e ∷ []) (outcomes_of bs) d h.store.disk
    unmoved same =
        subst (λ (os : List Outcome). Moments w (events_of bs ++ e ∷ []) os d h.store.disk) (append-nil (outcomes_of bs))
        (goes_then w d bs v f (e ∷ []) [] h.store.disk holds p (λ model. subst (λ (x : DiskView). LeavesOnly (LeftAmong v (e ∷ []) []) f.history x.history) (sym same)
        (started (LeftAmong v (e ∷ []) []) f.history (λ i image. left_none v (e ∷ []) [] i (stopped.held model i image)))))

    go : (x : HostFault) → CauseOf v e f h.store.disk x → LeavesFrontsUpTo w bs e x d h.store.disk
    go hosts.Closed cause = absurd cause
    go hosts.Disk cause =
        let write = cause.1.0 in
        let gives : Gives v e write.does.reported (following v write.does) = (write.does, write.may, refl, refl) in (
          write.does.reported,
          goes_then w d bs v f (e ∷ []) (write.does.reported ∷ []) h.store.disk holds p
              (one_event v e write.does.reported (following v write.does) [] [] f h.store.disk gives stopped.held cause.1.1),
        )
    go hosts.OutOfMemory cause = unmoved cause.0
    go hosts.JournalFull cause = unmoved cause.0

-- So do runs of each form.

pub ran_from : {C : Type 0} (s : At C) (Form : At C → List Entry → At C → Type 0) → ((bs : List Entry) (t : At C) → Form s bs t → Goes s.world s.disk bs t.world t.disk)
    → (h : HostView) (c : C) (replies : List Reply) → HoldsSheet s.world s.disk → Ran (Form s) [] h c replies → RanFrom s Form h c replies
ran_from s Form goes h c replies holds r = record { ran = r; moments = goes_leaves s.world s.disk r.entries r.leads h.store.disk holds (goes r.entries (at r.leads c h.store.disk) r.form) }

pub broke_from : {C : Type 0} (s : At C) (Form : At C → List Entry → Event → At C → Type 0) → ((bs : List Entry) (e : Event) (t : At C) → Form s bs e t → Goes s.world s.disk bs t.world t.disk)
    → (h : HostView) (c : C) (replies : List Reply) (fault : HostFault) → HoldsSheet s.world s.disk → BrokeOff (Form s) [] h c replies fault → BrokeFrom s Form h c replies fault
broke_from s Form goes h c replies fault holds r = record {
  broke = r;
  moments = goes_up_to s.world s.disk r.entries r.leads r.disk r.failed fault h holds (goes r.entries r.failed (at r.leads c r.disk) r.form) r.stopped;
}

module _ {C : Type 0} (R : Relation C) where
  pub served_from : (s : At C) (e : Event) (h : HostView) (c : C) (replies : List Reply) → HoldsSheet s.world s.disk → Ran (Served R s e) [] h c replies → RanFrom s (λ x. Served R x e) h c replies
  served_from s e = ran_from s (λ x. Served R x e) (λ bs t p. follows-goes R s (Some e) bs None t p)

  pub served_broke : (s : At C) (e : Event) (h : HostView) (c : C) (replies : List Reply) (fault : HostFault) → HoldsSheet s.world s.disk → BrokeOff (ServedUpTo R s e) [] h c replies fault
      → BrokeFrom s (λ x. ServedUpTo R x e) h c replies fault
  served_broke s e = broke_from s (λ x. ServedUpTo R x e) (λ bs left t p. follows-goes R s (Some e) bs (Some left) t p)

  pub waited_from : (most : ℕ) (s : At C) (h : HostView) (c : C) (replies : List Reply) → HoldsSheet s.world s.disk → Ran (Waited R most s) [] h c replies → RanFrom s (Waited R most) h c replies
  waited_from most s = ran_from s (Waited R most) (λ bs t p. rounds-goes R most p.0 s bs t p.1)

  pub so_far_from : (most : ℕ) (s : At C) (h : HostView) (c : C) (replies : List Reply) → HoldsSheet s.world s.disk → Ran (WaitSoFar R most s) [] h c replies → RanFrom s (WaitSoFar R most) h c replies
  so_far_from most s = ran_from s (WaitSoFar R most) (λ bs t p. so-far-goes R most s bs t p)

  pub waited_broke : (most : ℕ) (s : At C) (h : HostView) (c : C) (replies : List Reply) (fault : HostFault) → HoldsSheet s.world s.disk → BrokeOff (WaitStopped R most s) [] h c replies fault
      → BrokeFrom s (WaitStopped R most) h c replies fault
  waited_broke most s = broke_from s (WaitStopped R most) (λ bs e t p. stopped-goes R most s bs e t p)

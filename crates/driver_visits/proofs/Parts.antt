-- A run in two parts: what is reported, and what isn't.
use Rattle.std.proofs.Common.{◌≡◌, inl, inr, List, [], ◌∷◌, ◌++◌, refl, sym, ap, subst, append-nil, append_assoc, ◌∙◌}
use Rattle.std.specs.Prelude.{◌⊎◌}
use Rattle.disk_model.specs.Disk.{DiskView}
use Rattle.host_events.specs.declared.command.Command.TheVariants as command
use Rattle.host_events.specs.declared.event.Event.{Event}
use Rattle.host_events.specs.declared.event.Event.TheVariants as event
use Rattle.host_events.specs.declared.outcome.Outcome.{Outcome}
use Rattle.host_events.specs.declared.outcome.HostFault.{HostFault}
use Rattle.host_events.specs.declared.outcome.HostFault.TheVariants as hosts
use Rattle.session_engine.specs.World.{World}
use Rattle.disk_model.specs.inside.Moments.{weakens}
use Rattle.session_engine.specs.Crash.{LeftAmong, Moments, MomentsBefore}
use Rattle.session_engine.specs.Host.{HostView}
use Rattle.child_edge.specs.Edge.{Stopped}
use Rattle.child_edge.specs.Faithful.{Entry, at}
use Rattle.child_edge.specs.Kept.{HoldsSheet}
use Rattle.child_edge.specs.Moments.{events_of, outcomes_of}
use Rattle.child_edge.specs.Together.{LostTogether}
use Rattle.offline_programs.specs.declared.fault.RunFault.{RunFault}
use Rattle.theorem.specs.Programs.{EndedAs, at_event, in_group, well}
use Rattle.driver.specs.Items.{Item, RunStep, after_fault, broke, entries_of}
use Rattle.driver.specs.Place.{RunPlace, Rules, run_at}
use Rattle.driver.specs.Steps.{Fails, Goes, Run, asks, breaks, carries, heeds, hears, interrupts, joins, prints, prints_fault, receives, refuses_whole, rewrites, stalls_all, takes, takes_alone, takes_edits, takes_whole, watches, broken, broken_joined, lost, lost_joined, too_many, too_many_heard, uncounted, uncounted_line, unheard, unjoined, unnumbered, unprinted, unsaid, unstalled, untaken, lost_whole, too_many_whole, untaken_whole, broken_alone, lost_edits, unreceived, untaken_edits, unwatched, unwritten}
use Rattle.driver.specs.Laws.{trace}
use Rattle.driver.proofs.Courses.{Course, course_on, course_up_to, either_moments, left_within}
use Rattle.driver.proofs.Fronts.{after, fault_stays}
use Rattle.driver.proofs.Gates.{up_to_course}
use Rattle.driver.proofs.Order.{Broke, no_step, step_course}
use Rattle.driver.proofs.Running.{run_join}
use Rattle.driver_visits.specs.Tried.{TriedLast, tried_at}

-- The entries led from this world and disk to those; then it ended so, at these events. At every moment each image is one of the worksheet after some of the
-- first events.
pub record Parted (w : World) (d : DiskView) (entries : List Entry) (back : DiskView) : Type 0 where
  pub leads : World
  pub mid : DiskView
  pub course : Course w d entries leads mid
  pub events : List Event
  pub ended : EndedAs leads mid events back
  pub moments : HoldsSheet w d → (outcomes : List Outcome) × Moments w (events_of entries ++ events) (outcomes_of entries ++ outcomes) d back

ended_well : (w : World) (d : DiskView) (back : DiskView) → back ≡ d → Parted w d [] back
ended_well w d back is = record {
  leads = w;
  mid = d;
  course = no_step w d;
  events = [];
  ended = subst (λ (x : DiskView). EndedAs w d [] x) (sym is) well;
  moments = λ held. ([], subst (λ (x : DiskView). Moments w [] [] d x) (sym is) ((no_step w d).moments held));
}

-- an event that had this fault, after these entries
at_fault : (w : World) (d : DiskView) (entries : List Entry) (v : World) (mid : DiskView) (e : Event) (f : HostFault) (h : HostView) → Course w d entries v mid → Stopped mid h v e f → Parted w d entries h.store.disk
at_fault w d entries v mid e f h course stopped = record {
  leads = v;
  mid = mid;
  course = course;
  events = e ∷ [];
  ended = at_event e f h.store.disk stopped.same stopped.cause;
  moments = go f stopped (λ held. course_up_to w d entries v mid e f h held course stopped);
}
  where
    none : Moments w (events_of entries ++ e ∷ []) (outcomes_of entries) d h.store.disk → (os : List Outcome) × Moments w (events_of entries ++ e ∷ []) (outcomes_of entries ++ os) d h.store.disk
    none m = ([], subst (λ (os : List Outcome). Moments w (events_of entries ++ e ∷ []) os d h.store.disk) (sym (append-nil (outcomes_of entries))) m)

    go : (x : HostFault) → Stopped mid h v e x → (HoldsSheet w d → MomentsBefore w (events_of entries ++ e ∷ []) (outcomes_of entries) x d h.store.disk) → HoldsSheet w d → (os : List Outcome) × Moments w (events_of entries ++ e ∷ []) (outcomes_of entries ++ os) d h.store.disk
    go hosts.Closed s m = absurd s.cause
    go hosts.Disk s m = λ held. let n = m held in (n.0 ∷ [], n.1)
    go hosts.OutOfMemory s m = λ held. none (m held)
    go hosts.JournalFull s m = λ held. none (m held)

at_loss : (w : World) (d : DiskView) (events : List Event) (h : HostView) → LostTogether w events d h → Parted w d [] h.store.disk
at_loss w d events h l = record {
  leads = w;
  mid = d;
  course = no_step w d;
  events = l.taken ++ l.dropped;
  ended = in_group l.taken l.dropped l.withheld l.leads h.store.disk l.runs l.same l.moments;
  moments = λ held. (
    l.withheld ++ [],
    λ model. weakens (LeftAmong w l.taken l.withheld) (LeftAmong w (l.taken ++ l.dropped) (l.withheld ++ [])) d.history h.store.disk.history
        (λ i x. left_within w l.taken l.dropped l.withheld [] i x) (either_moments w l.taken l.withheld l.leads d h.store.disk l.runs l.moments model),
  );
}

fails_parted : {A C K : Type 0} (R : Rules A C K) (p q : RunPlace A C K) (i : Item) (entries : List Entry) (why : RunFault) → Fails R p i entries why q → Parted p.world p.disk entries q.disk
fails_parted R p q i entries why (unsaid now w a clock says) = ended_well p.world p.disk q.disk refl
fails_parted R p q i entries why (uncounted many) = ended_well p.world p.disk q.disk refl
fails_parted R p q i entries why (unwatched x c wakes) = ended_well p.world p.disk q.disk refl
fails_parted R p q i entries why (unheard seat most) = ended_well p.world p.disk q.disk refl
fails_parted R p q i entries why (too_many from events many) = ended_well p.world p.disk q.disk refl
fails_parted R p q i entries why (untaken from events) = ended_well p.world p.disk q.disk refl
fails_parted R p q i entries why (lost from events h l) = at_loss p.world p.disk events h l
fails_parted R p q i entries why (broken from events bs e f w c d h t stopped) = at_fault p.world p.disk entries w d e f h
    (up_to_course R.sources.after (run_at p) events entries e (at w c d) t) stopped
fails_parted R p q i entries why (too_many_heard events many) = ended_well p.world p.disk q.disk refl
fails_parted R p q i entries why (unjoined events) = ended_well p.world p.disk q.disk refl
fails_parted R p q i entries why (lost_joined events all a h all_are l) = at_loss p.world p.disk all h l
fails_parted R p q i entries why (broken_joined events all a bs e f w c d h all_are t stopped) = at_fault p.world p.disk entries w d e f h
    (up_to_course R.sources.after (run_at p) all entries e (at w c d) t) stopped
fails_parted R p q i entries why (too_many_whole first events many) = ended_well p.world p.disk q.disk refl
fails_parted R p q i entries why (untaken_whole first events) = ended_well p.world p.disk q.disk refl
fails_parted R p q i entries why (lost_whole first events h l) = at_loss p.world p.disk events h l.lost
fails_parted R p q i entries why (untaken_edits up_to events) = ended_well p.world p.disk q.disk refl
fails_parted R p q i entries why (lost_edits up_to events h l) = at_loss p.world p.disk events h l.lost
fails_parted R p q i entries why (broken_alone x f h stopped) = at_fault p.world p.disk [] p.world p.disk x f h (no_step p.world p.disk) stopped
fails_parted R p q i entries why (unreceived seat) = ended_well p.world p.disk q.disk refl
fails_parted R p q i entries why (unwritten line f h stopped) = at_fault p.world p.disk [] p.world p.disk (event.Command command.Checkpoint) f h (no_step p.world p.disk) stopped
fails_parted R p q i entries why (unnumbered line many) = ended_well p.world p.disk q.disk refl
fails_parted R p q i entries why unstalled = ended_well p.world p.disk q.disk refl
fails_parted R p q i entries why (uncounted_line first outcomes many) = ended_well p.world p.disk q.disk refl
fails_parted R p q i entries why (unprinted s w k is tries) = ended_well p.world p.disk q.disk refl

-- a course, and then more
abbrev pub parted_after : (w : World) (d : DiskView) (bs : List Entry) (m : World) (e : DiskView) (cs : List Entry) (back : DiskView) → Course w d bs m e → Parted m e cs back → Parted w d (bs ++ cs) back
parted_after w d bs m e cs back course it = record {
  leads = it.leads;
  mid = it.mid;
  course = course_on w d bs m e cs it.leads it.mid course it.course;
  events = it.events;
  ended = it.ended;
  moments = λ held. let n = it.moments (course.holds held) in (n.0, after w d bs m e held course cs it.events n.0 back n.1);
}

-- the events of a failure are those that were tried
fails_tried : {A C K : Type 0} (R : Rules A C K) (p q : RunPlace A C K) (i : Item) (entries : List Entry) (why : RunFault) (fails : Fails R p i entries why q) → (fails_parted R p q i entries why fails).events ≡ tried_at fails
unfolding fails_parted ended_well at_loss at_fault
fails_tried R p q i entries why (unsaid now w a clock says) = refl
fails_tried R p q i entries why (uncounted many) = refl
fails_tried R p q i entries why (unwatched x c wakes) = refl
fails_tried R p q i entries why (unheard seat most) = refl
fails_tried R p q i entries why (too_many from events many) = refl
fails_tried R p q i entries why (untaken from events) = refl
fails_tried R p q i entries why (lost from events h l) = sym l.split
fails_tried R p q i entries why (broken from events bs e f w c d h t stopped) = refl
fails_tried R p q i entries why (too_many_heard events many) = refl
fails_tried R p q i entries why (unjoined events) = refl
fails_tried R p q i entries why (lost_joined events all a h all_are l) = sym l.split
fails_tried R p q i entries why (broken_joined events all a bs e f w c d h all_are t stopped) = refl
fails_tried R p q i entries why (too_many_whole first events many) = refl
fails_tried R p q i entries why (untaken_whole first events) = refl
fails_tried R p q i entries why (lost_whole first events h l) = sym l.lost.split
fails_tried R p q i entries why (untaken_edits up_to events) = refl
fails_tried R p q i entries why (lost_edits up_to events h l) = sym l.lost.split
fails_tried R p q i entries why (broken_alone x f h stopped) = refl
fails_tried R p q i entries why (unreceived seat) = refl
fails_tried R p q i entries why (unwritten line f h stopped) = refl
fails_tried R p q i entries why (unnumbered line many) = refl
fails_tried R p q i entries why unstalled = refl
fails_tried R p q i entries why (uncounted_line first outcomes many) = refl
fails_tried R p q i entries why (unprinted s w k is tries) = refl

-- The item at which a step broke off.
record BrokeHere {A C K : Type 0} (R : Rules A C K) (p : RunPlace A C K) (todo : List Item) (s : RunStep) (next : List Item) (mid : RunPlace A C K) : Type 0 where
  item : Item
  rest : List Item
  entries : List Entry
  why : RunFault
  fails : Fails R p item entries why mid
  here : todo ≡ item ∷ rest
  step : s ≡ broke entries why
  left : next ≡ after_fault why

broke_here : {A C K : Type 0} (R : Rules A C K) (p mid : RunPlace A C K) (todo next : List Item) (s : RunStep) → Goes R p todo s next mid → Broke R p s next mid → BrokeHere R p todo s next mid
broke_here R p mid todo next s (breaks i entries why q rest fails) b = record { item = i; rest = rest; entries = entries; why = why; fails = fails; here = refl; step = refl; left = refl }
broke_here R p mid todo next s (asks now t a c says) b = let no : s ≡ broke b.entries b.why = b.step in cc
broke_here R p mid todo next s (watches q w c a rest wakes woken) b = let no : s ≡ broke b.entries b.why = b.step in cc
broke_here R p mid todo next s (hears seat most events c rest h) b = let no : s ≡ broke b.entries b.why = b.step in cc
broke_here R p mid todo next s (takes from events outcomes followed w c d rest t) b = let no : s ≡ broke b.entries b.why = b.step in cc
broke_here R p mid todo next s (joins events outcomes first more later followed a w c d rest j t) b = let no : s ≡ broke b.entries b.why = b.step in cc
broke_here R p mid todo next s (takes_whole first events outcomes w d rest t) b = let no : s ≡ broke b.entries b.why = b.step in cc
broke_here R p mid todo next s (refuses_whole first events before last rest r) b = let no : s ≡ broke b.entries b.why = b.step in cc
broke_here R p mid todo next s (takes_edits up_to events done outcomes w d rest first t) b = let no : s ≡ broke b.entries b.why = b.step in cc
broke_here R p mid todo next s (takes_alone x o w d rest gives kept) b = let no : s ≡ broke b.entries b.why = b.step in cc
broke_here R p mid todo next s (carries o answer c rest went) b = let no : s ≡ broke b.entries b.why = b.step in cc
broke_here R p mid todo next s (receives seat x c rest was) b = let no : s ≡ broke b.entries b.why = b.step in cc
broke_here R p mid todo next s (rewrites line o w d rest g k) b = let no : s ≡ broke b.entries b.why = b.step in cc
broke_here R p mid todo next s (stalls_all rest) b = let no : s ≡ broke b.entries b.why = b.step in cc
broke_here R p mid todo next s (interrupts name reported c rest i) b = let no : s ≡ broke b.entries b.why = b.step in cc
broke_here R p mid todo next s (prints t k rest tries) b = let no : s ≡ broke b.entries b.why = b.step in cc
broke_here R p mid todo next s (heeds c now n a rest clock h) b = let no : s ≡ broke b.entries b.why = b.step in cc
broke_here R p mid todo next s (prints_fault why whole k tries) b = let no : s ≡ broke b.entries b.why = b.step in cc

-- steps before those that were tried last
pub tried_on : {A C K : Type 0} (R : Rules A C K) (p m : RunPlace A C K) (todo mid : List Item) (first steps : List RunStep) (events : List Event) → Run R p todo first mid m → TriedLast R m mid steps events → TriedLast R p todo (first ++ steps) events
tried_on R p m todo mid first steps events ran (inl none) = inl none
tried_on R p m todo mid first steps events ran (inr (b, is)) = inr (
  record {
    before = first ++ b.before;
    after = b.after;
    item = b.item;
    rest = b.rest;
    entries = b.entries;
    why = b.why;
    split = ap (λ (l : List RunStep). first ++ l) b.split ∙ sym (append_assoc first b.before (broke b.entries b.why ∷ b.after));
    there = b.there;
    back = b.back;
    ran = run_join R p m b.there todo mid (b.item ∷ b.rest) first b.before ran b.ran;
    fails = b.fails;
  },
  is,
)

-- The parts of a run, and what was tried in the second one.
pub parted_run : {A C K : Type 0} (R : Rules A C K) (p q : RunPlace A C K) (todo left : List Item) (steps : List RunStep) → Run R p todo steps left q
    → (it : Parted p.world p.disk (trace steps) q.disk) × TriedLast R p todo steps it.events
unfolding ended_well
parted_run R p q todo left [] r = (ended_well p.world p.disk q.disk (ap (λ (x : RunPlace _ _ _). x.disk) r.1), inl refl)
parted_run {A = A} {C = C} {K = K} R p q todo left (s ∷ steps) (next, mid, goes, more) = by (parted_run R mid q next left steps more) (step_course R p mid todo next s goes)
  where
    by : (it : Parted mid.world mid.disk (trace steps) q.disk) × TriedLast R mid next steps it.events → (Course p.world p.disk (entries_of s) mid.world mid.disk ⊎ Broke R p s next mid)
        → (it : Parted p.world p.disk (trace (s ∷ steps)) q.disk) × TriedLast R p todo (s ∷ steps) it.events
    by on (inl c) = (
      parted_after p.world p.disk (entries_of s) mid.world mid.disk (trace steps) q.disk c on.0,
      tried_on R p mid todo next (s ∷ []) steps on.0.events (next, mid, goes, (refl, refl)) on.1,
    )
    by on (inr broken_off) =
        let b = broke_here R p mid todo next s goes broken_off in
        let so = fault_stays R mid q b.why next left steps b.left more in
        subst (λ (l : List Entry). (it : Parted p.world p.disk l q.disk) × TriedLast R p todo (s ∷ steps) it.events)
        (sym (append-nil b.entries) ∙ ap (λ (l : List Entry). b.entries ++ l) (sym so.none) ∙ ap (λ (x : RunStep). entries_of x ++ trace steps)
        (sym b.step))
        (subst (λ (x : DiskView). (it : Parted p.world p.disk b.entries x) × TriedLast R p todo (s ∷ steps) it.events) (sym so.disk) (
          fails_parted R p mid b.item b.entries b.why b.fails,
          inr (
            record {
              before = [];
              after = steps;
              item = b.item;
              rest = b.rest;
              entries = b.entries;
              why = b.why;
              split = ap (λ (x : RunStep). x ∷ steps) b.step;
              there = p;
              back = mid;
              ran = (sym b.here, refl);
              fails = b.fails;
            },
            fails_tried R p mid b.item b.entries b.why b.fails,
          ),
        ))

pub parted : {A C K : Type 0} (R : Rules A C K) (p q : RunPlace A C K) (todo left : List Item) (steps : List RunStep) → Run R p todo steps left q → Parted p.world p.disk (trace steps) q.disk
parted R p q todo left steps r = (parted_run R p q todo left steps r).0

-- of entries that are the same
abbrev pub parted_as : (w : World) (d : DiskView) (bs cs : List Entry) (back : DiskView) → bs ≡ cs → Parted w d cs back → Parted w d bs back
parted_as w d bs cs back same it = record {
  leads = it.leads;
  mid = it.mid;
  course = subst (λ (l : List Entry). Course w d l it.leads it.mid) (sym same) it.course;
  events = it.events;
  ended = it.ended;
  moments = subst (λ (l : List Entry). HoldsSheet w d → (outcomes : List Outcome) × Moments w (events_of l ++ it.events) (outcomes_of l ++ outcomes) d back) (sym same) it.moments;
}

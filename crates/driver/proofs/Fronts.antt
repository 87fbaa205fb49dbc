-- Where a run leads, and what it leaves of the disk at every moment.
use Rattle.std.proofs.Common.{◌≡◌, inl, inr, List, [], ◌∷◌, ◌++◌, refl, sym, ap, subst, append-nil, append_assoc, ◌∙◌}
use Rattle.std.specs.Prelude.{◌⊎◌}
use Rattle.disk_model.specs.Disk.{DiskView}
use Rattle.host_events.specs.declared.event.Event.{Event}
use Rattle.host_events.specs.declared.outcome.Outcome.{Outcome}
use Rattle.host_events.specs.declared.event.Event.TheVariants as event
use Rattle.host_events.specs.declared.command.Command.TheVariants as command
use Rattle.session_engine.specs.World.{World}
use Rattle.session_engine.specs.Does.{Runs}
use Rattle.session_engine.specs.Crash.{Moments}
use Rattle.child_edge.specs.Faithful.{Entry, at}
use Rattle.child_edge.specs.Kept.{HoldsSheet}
use Rattle.child_edge.specs.Moments.{LeavesFronts, LeavesFrontsUpTo, events_of, outcomes_of}
use Rattle.child_edge.specs.Edge.{Stopped}
use Rattle.child_edge.specs.Together.{LostTogether}
use Rattle.host_events.specs.declared.outcome.HostFault.{HostFault}
use Rattle.host_events.specs.declared.outcome.HostFault.TheVariants as hosts
use Rattle.offline_programs.specs.declared.fault.RunFault.{RunFault}
use Rattle.driver.specs.Items.{Item, RunStep, after_fault, entries_of, print_fault, halt}
use Rattle.driver.specs.Place.{RunPlace, Rules, run_at}
use Rattle.driver.specs.Steps.{Fails, Goes, Run, asks, breaks, broken, broken_joined, prints_fault, hears, heeds, interrupts, joins, lost, lost_joined, rewrites, stalls_all, takes, prints, too_many, too_many_heard, uncounted, uncounted_line, unheard, unjoined, unnumbered, unsaid, unstalled, untaken, unprinted, unwatched, unwritten, watches, takes_whole, refuses_whole, lost_whole, too_many_whole, untaken_whole, broken_alone, carries, lost_edits, receives, takes_alone, takes_edits, unreceived, untaken_edits}
use Rattle.driver.specs.Laws.{LeavesFrontsOf, all_printed, broke_at, lost_at, trace}
use Rattle.driver.proofs.Courses.{Course, course_up_to, either_moments, events_append, moments_on, outcomes_append, runs_on}
use Rattle.driver.proofs.Gates.{at_once_course, together_course, up_to_course}
use Rattle.driver.proofs.Order.{Broke, after_halt, after_is, no_step, step_course}

-- Where a step leads.

fails_lead : {A C K : Type 0} (R : Rules A C K) (p q : RunPlace A C K) (i : Item) (entries : List Entry) (why : RunFault) → Fails R p i entries why q → Runs p.world (events_of entries) (outcomes_of entries) q.world
fails_lead R p q i entries why (unsaid now w a clock says) = refl
fails_lead R p q i entries why (uncounted many) = refl
fails_lead R p q i entries why (unwatched x c wakes) = refl
fails_lead R p q i entries why (unheard seat most) = refl
fails_lead R p q i entries why (too_many from events many) = refl
fails_lead R p q i entries why (untaken from events) = refl
fails_lead R p q i entries why (lost from events h l) = refl
fails_lead R p q i entries why (broken from events bs e f w c d h t stopped) = (up_to_course R.sources.after (run_at p) events entries e (at w c d) t).runs
fails_lead R p q i entries why (too_many_heard events many) = refl
fails_lead R p q i entries why (unjoined events) = refl
fails_lead R p q i entries why (lost_joined events all a h all_are l) = refl
fails_lead R p q i entries why (broken_joined events all a bs e f w c d h all_are t stopped) = (up_to_course R.sources.after (run_at p) all entries e (at w c d) t).runs
fails_lead R p q i entries why (too_many_whole first events many) = refl
fails_lead R p q i entries why (untaken_whole first events) = refl
fails_lead R p q i entries why (lost_whole first events h l) = refl
fails_lead R p q i entries why (untaken_edits up_to events) = refl
fails_lead R p q i entries why (lost_edits up_to events h l) = refl
fails_lead R p q i entries why (broken_alone x f h stopped) = refl
fails_lead R p q i entries why (unreceived seat) = refl
fails_lead R p q i entries why (unwritten line f h stopped) = refl
fails_lead R p q i entries why (unnumbered line many) = refl
fails_lead R p q i entries why unstalled = refl
fails_lead R p q i entries why (uncounted_line first outcomes many) = refl
fails_lead R p q i entries why (unprinted s w k is tries) = refl

step_leads : {A C K : Type 0} (R : Rules A C K) (p mid : RunPlace A C K) (todo next : List Item) (s : RunStep) → Goes R p todo s next mid → Runs p.world (events_of (entries_of s)) (outcomes_of (entries_of s)) mid.world
step_leads R p mid todo next s (asks now t a c says) = refl
step_leads R p mid todo next s (watches q w c a rest wakes woken) = refl
step_leads R p mid todo next s (hears seat most events c rest h) = refl
step_leads R p mid todo next s (takes from events outcomes followed w c d rest t) = (together_course R.sources.after (run_at p) events outcomes followed (at w c d) t).runs
step_leads R p mid todo next s (joins events outcomes first more later followed a w c d rest j t) =
    (together_course R.sources.after (run_at p) (events ++ more) (outcomes ++ later) followed (at w c d) t).runs
step_leads R p mid todo next s (takes_whole first events outcomes w d rest t) = (at_once_course p.world events outcomes w p.disk d t.kept).runs
step_leads R p mid todo next s (refuses_whole first events before last rest r) = refl
step_leads R p mid todo next s (takes_edits up_to events done outcomes w d rest first t) = (at_once_course p.world done outcomes w p.disk d t.kept).runs
step_leads R p mid todo next s (takes_alone x o w d rest gives kept) = (w, gives, refl)
step_leads R p mid todo next s (carries o answer c rest went) = refl
step_leads R p mid todo next s (receives seat x c rest was) = refl
step_leads R p mid todo next s (rewrites line o w d rest g k) = (w, g, refl)
step_leads R p mid todo next s (stalls_all rest) = refl
step_leads R p mid todo next s (interrupts name reported c rest i) = refl
step_leads R p mid todo next s (prints t k rest tries) = refl
step_leads R p mid todo next s (heeds c now n a rest clock h) = refl
step_leads R p mid todo next s (breaks i entries why q rest fails) = fails_lead R p q i entries why fails
step_leads R p mid todo next s (prints_fault why whole k tries) = refl

-- events of these entries and then of those
appended : (w : World) (bs : List Entry) (m : World) (cs : List Entry) (v : World) → Runs w (events_of bs) (outcomes_of bs) m → Runs m (events_of cs) (outcomes_of cs) v → Runs w (events_of (bs ++ cs)) (outcomes_of (bs ++ cs)) v
appended w bs m cs v p q =
    subst (λ (es : List Event). Runs w es (outcomes_of (bs ++ cs)) v) (sym (events_append bs cs))
    (subst (λ (os : List Outcome). Runs w (events_of bs ++ events_of cs) os v) (sym (outcomes_append bs cs))
    (runs_on w (events_of bs) (outcomes_of bs) m (events_of cs) (outcomes_of cs) v p q))

pub leads_to : {A C K : Type 0} (R : Rules A C K) (p q : RunPlace A C K) (todo left : List Item) (steps : List RunStep) → Run R p todo steps left q → Runs p.world (events_of (trace steps)) (outcomes_of (trace steps)) q.world
leads_to R p q todo left [] r = ap (λ (x : RunPlace _ _ _). x.world) r.1
leads_to R p q todo left (s ∷ steps) (next, mid, goes, more) =
    appended p.world (entries_of s) mid.world (trace steps) q.world (step_leads R p mid todo next s goes) (leads_to R mid q next left steps more)

-- What entries leave of the disk, after a course.

module _ (w : World) (d : DiskView) (bs : List Entry) (m : World) (e : DiskView) (held : HoldsSheet w d) (c : Course w d bs m e) where
  pub after : (cs : List Entry) (es : List Event) (os : List Outcome) (f : DiskView) → Moments m (events_of cs ++ es) (outcomes_of cs ++ os) e f → Moments w (events_of (bs ++ cs) ++ es) (outcomes_of (bs ++ cs) ++ os) d f
  after cs es os f later =
      subst (λ (l : List Event). Moments w l (outcomes_of (bs ++ cs) ++ os) d f) (sym (ap (λ (l : List Event). l ++ es) (events_append bs cs) ∙ append_assoc (events_of bs) (events_of cs) es))
      (subst (λ (l : List Outcome). Moments w (events_of bs ++ (events_of cs ++ es)) l d f)
      (sym (ap (λ (l : List Outcome). l ++ os) (outcomes_append bs cs) ∙ append_assoc (outcomes_of bs) (outcomes_of cs) os))
      (moments_on w (events_of bs) (outcomes_of bs) m (events_of cs ++ es) (outcomes_of cs ++ os) d e f c.runs c.same (c.moments held) later))

  fronts_after : (cs : List Entry) (f : DiskView) → LeavesFronts m cs e f → LeavesFronts w (bs ++ cs) d f
  fronts_after cs f later =
      subst (λ (l : List Event). Moments w l (outcomes_of (bs ++ cs)) d f) (append-nil (events_of (bs ++ cs)))
      (subst (λ (l : List Outcome). Moments w (events_of (bs ++ cs) ++ []) l d f) (append-nil (outcomes_of (bs ++ cs)))
      (after cs [] [] f (subst (λ (l : List Event). Moments m l (outcomes_of cs ++ []) e f) (sym (append-nil (events_of cs)))
      (subst (λ (l : List Outcome). Moments m (events_of cs) l e f) (sym (append-nil (outcomes_of cs))) later))))

  unprinted_after : (cs : List Entry) (x : Event) (f : DiskView) → Moments m (events_of cs ++ x ∷ []) (outcomes_of cs) e f → Moments w (events_of (bs ++ cs) ++ x ∷ []) (outcomes_of (bs ++ cs)) d f
  unprinted_after cs x f later =
      subst (λ (l : List Outcome). Moments w (events_of (bs ++ cs) ++ x ∷ []) l d f) (append-nil (outcomes_of (bs ++ cs)))
      (after cs (x ∷ []) [] f (subst (λ (l : List Outcome). Moments m (events_of cs ++ x ∷ []) l e f) (sym (append-nil (outcomes_of cs))) later))

  up_to_after : (cs : List Entry) (x : Event) (fault : HostFault) (f : DiskView) → LeavesFrontsUpTo m cs x fault e f → LeavesFrontsUpTo w (bs ++ cs) x fault d f
  up_to_after cs x hosts.Closed f later = later
  up_to_after cs x hosts.Disk f later = (later.0, after cs (x ∷ []) (later.0 ∷ []) f later.1)
  up_to_after cs x hosts.OutOfMemory f later = unprinted_after cs x f later
  up_to_after cs x hosts.JournalFull f later = unprinted_after cs x f later

following : {A C K : Type 0} (p mid q : RunPlace A C K) (bs cs : List Entry) → HoldsSheet p.world p.disk → Course p.world p.disk bs mid.world mid.disk → LeavesFrontsOf mid cs q → LeavesFrontsOf p (bs ++ cs) q
following p mid q bs cs held c (all_printed m) = all_printed (fronts_after p.world p.disk bs mid.world mid.disk held c cs q.disk m)
following p mid q bs cs held c (broke_at d h e f stopped is m) = broke_at d h e f stopped is (up_to_after p.world p.disk bs mid.world mid.disk held c cs e f q.disk m)
following p mid q bs cs held c (lost_at events d h l is m) = lost_at events d h l is (after p.world p.disk bs mid.world mid.disk held c cs l.taken l.withheld q.disk m)

-- What an item leaves that failed.

nothing_done : {A C K : Type 0} (p q : RunPlace A C K) → HoldsSheet p.world p.disk → q.disk ≡ p.disk → LeavesFrontsOf p [] q
nothing_done p q held is = all_printed (subst (λ (d : DiskView). LeavesFronts p.world [] p.disk d) (sym is) ((no_step p.world p.disk).moments held))

fails_leave : {A C K : Type 0} (R : Rules A C K) (p q : RunPlace A C K) (i : Item) (entries : List Entry) (why : RunFault) → HoldsSheet p.world p.disk → Fails R p i entries why q → LeavesFrontsOf p entries q
fails_leave R p q i entries why held (unsaid now w a clock says) = nothing_done p q held refl
fails_leave R p q i entries why held (uncounted many) = nothing_done p q held refl
fails_leave R p q i entries why held (unwatched x c wakes) = nothing_done p q held refl
fails_leave R p q i entries why held (unheard seat most) = nothing_done p q held refl
fails_leave R p q i entries why held (too_many from events many) = nothing_done p q held refl
fails_leave R p q i entries why held (untaken from events) = nothing_done p q held refl
fails_leave R p q i entries why held (lost from events h l) = lost_at events p.disk h l refl (either_moments p.world l.taken l.withheld l.leads p.disk h.store.disk l.runs l.moments)
fails_leave R p q i entries why held (broken from events bs e f w c d h t stopped) =
    broke_at d h e f stopped refl (course_up_to p.world p.disk entries w d e f h held (up_to_course R.sources.after (run_at p) events entries e (at w c d) t) stopped)
fails_leave R p q i entries why held (too_many_heard events many) = nothing_done p q held refl
fails_leave R p q i entries why held (unjoined events) = nothing_done p q held refl
fails_leave R p q i entries why held (lost_joined events all a h all_are l) = lost_at all p.disk h l refl (either_moments p.world l.taken l.withheld l.leads p.disk h.store.disk l.runs l.moments)
fails_leave R p q i entries why held (broken_joined events all a bs e f w c d h all_are t stopped) =
    broke_at d h e f stopped refl (course_up_to p.world p.disk entries w d e f h held (up_to_course R.sources.after (run_at p) all entries e (at w c d) t) stopped)
fails_leave R p q i entries why held (too_many_whole first events many) = nothing_done p q held refl
fails_leave R p q i entries why held (untaken_whole first events) = nothing_done p q held refl
fails_leave R p q i entries why held (lost_whole first events h l) =
    lost_at events p.disk h l.lost refl (either_moments p.world l.lost.taken l.lost.withheld l.lost.leads p.disk h.store.disk l.lost.runs l.lost.moments)
fails_leave R p q i entries why held (untaken_edits up_to events) = nothing_done p q held refl
fails_leave R p q i entries why held (lost_edits up_to events h l) =
    lost_at events p.disk h l.lost refl (either_moments p.world l.lost.taken l.lost.withheld l.lost.leads p.disk h.store.disk l.lost.runs l.lost.moments)
fails_leave R p q i entries why held (broken_alone x f h stopped) =
    broke_at p.disk h x f stopped refl (course_up_to p.world p.disk [] p.world p.disk x f h held (no_step p.world p.disk) stopped)
fails_leave R p q i entries why held (unreceived seat) = nothing_done p q held refl
fails_leave R p q i entries why held (unwritten line f h stopped) =
    broke_at p.disk h (event.Command command.Checkpoint) f stopped refl (course_up_to p.world p.disk [] p.world p.disk (event.Command command.Checkpoint) f h held (no_step p.world p.disk) stopped)
fails_leave R p q i entries why held (unnumbered line many) = nothing_done p q held refl
fails_leave R p q i entries why held unstalled = nothing_done p q held refl
fails_leave R p q i entries why held (uncounted_line first outcomes many) = nothing_done p q held refl
fails_leave R p q i entries why held (unprinted s w k is tries) = nothing_done p q held refl

-- After a fault no event is taken, and the disk stays.

pub record StaysThere {A C K : Type 0} (p q : RunPlace A C K) (steps : List RunStep) : Type 0 where
  pub world : q.world ≡ p.world
  pub disk : q.disk ≡ p.disk
  pub none : trace steps ≡ []

stays_at : {A C K : Type 0} (p q : RunPlace A C K) → q ≡ p → StaysThere p q []
stays_at p q is = record { world = ap (λ (x : RunPlace _ _ _). x.world) is; disk = ap (λ (x : RunPlace _ _ _). x.disk) is; none = refl }

halt_stays : {A C K : Type 0} (R : Rules A C K) (p q : RunPlace A C K) (why : RunFault) (left : List Item) (steps : List RunStep) → Run R p (halt why ∷ []) steps left q → StaysThere p q steps
halt_stays R p q why left [] r = stays_at p q r.1
halt_stays R p q why left (s ∷ steps) (next, mid, goes, more) = absurd (after_halt R p mid why s next goes)

fault_line_stays : {A C K : Type 0} (R : Rules A C K) (p q : RunPlace A C K) (why : RunFault) (left : List Item) (steps : List RunStep) → Run R p (print_fault why ∷ []) steps left q → StaysThere p q steps
fault_line_stays R p q why left [] r = stays_at p q r.1
fault_line_stays R p q why left (s ∷ steps) (next, mid, prints_fault w whole k tries, more) =
    let so = halt_stays R mid q why left steps more in
    record { world = so.world; disk = so.disk; none = so.none }
fault_line_stays R p q why left (s ∷ steps) (next, mid, breaks i entries w x rest fails, more) = absurd (elim fails [ ])

pub fault_stays : {A C K : Type 0} (R : Rules A C K) (p q : RunPlace A C K) (why : RunFault) (next left : List Item) (steps : List RunStep) → next ≡ after_fault why → Run R p next steps left q → StaysThere p q steps
fault_stays R p q why next left steps is r = by (after_is why)
  where
    by : ((after_fault why ≡ halt why ∷ []) ⊎ (after_fault why ≡ print_fault why ∷ [])) → StaysThere p q steps
    by (inl e) = halt_stays R p q why left steps (subst (λ (t : List Item). Run R p t steps left q) (is ∙ e) r)
    by (inr e) = fault_line_stays R p q why left steps (subst (λ (t : List Item). Run R p t steps left q) (is ∙ e) r)

same_there : {A C K : Type 0} (p mid q : RunPlace A C K) (entries : List Entry) → q.world ≡ mid.world → q.disk ≡ mid.disk → LeavesFrontsOf p entries mid → LeavesFrontsOf p entries q
same_there p mid q entries world disk (all_printed m) = all_printed (subst (λ (d : DiskView). LeavesFronts p.world entries p.disk d) (sym disk) m)
same_there p mid q entries world disk (broke_at d h e f stopped is m) =
    broke_at d h e f (subst (λ (w : World). Stopped d h w e f) (sym world) stopped) (disk ∙ is) (subst (λ (x : DiskView). LeavesFrontsUpTo p.world entries e f p.disk x) (sym disk) m)
same_there p mid q entries world disk (lost_at events d h l is m) =
    subst (λ (w : World). (x : LostTogether w events d h) → Moments p.world (events_of entries ++ x.taken) (outcomes_of entries ++ x.withheld) p.disk q.disk → LeavesFrontsOf p entries q) world
    (λ x y. lost_at events d h x (disk ∙ is) y) l (subst (λ (x : DiskView). Moments p.world (events_of entries ++ l.taken) (outcomes_of entries ++ l.withheld) p.disk x) (sym disk) m)

pub leave_fronts : {A C K : Type 0} (R : Rules A C K) (p q : RunPlace A C K) (todo left : List Item) (steps : List RunStep) → HoldsSheet p.world p.disk → Run R p todo steps left q → LeavesFrontsOf p (trace steps) q
leave_fronts R p q todo left [] held r = nothing_done p q held (ap (λ (x : RunPlace _ _ _). x.disk) r.1)
leave_fronts R p q todo left (s ∷ steps) held (next, mid, goes, more) = by (λ h. leave_fronts R mid q next left steps h more) (step_course R p mid todo next s goes)
  where
    by : (HoldsSheet mid.world mid.disk → LeavesFrontsOf mid (trace steps) q) → (Course p.world p.disk (entries_of s) mid.world mid.disk ⊎ Broke R p s next mid) → LeavesFrontsOf p (trace (s ∷ steps)) q
    by on (inl c) = following p mid q (entries_of s) (trace steps) held c (on (c.holds held))
    by on (inr b) =
        let so = fault_stays R mid q b.why next left steps b.left more in
        subst (λ (l : List Entry). LeavesFrontsOf p l q) (sym (append-nil b.entries) ∙ ap (λ (l : List Entry). b.entries ++ l) (sym so.none) ∙ ap
        (λ (x : RunStep). entries_of x ++ trace steps) (sym b.step))
        (same_there p mid q b.entries so.world so.disk (fails_leave R p mid b.item b.entries b.why held b.fails))

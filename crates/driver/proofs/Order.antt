-- The order of what is durable and what is printed.
use Rattle.std.proofs.Common.{◌≡◌, inl, inr, List, [], ◌∷◌, ◌++◌, refl, subst, ◌∙◌, true}
use Rattle.std.specs.Prelude.{◌⊎◌}
use Rattle.disk_model.specs.Disk.{DiskView}
use Rattle.session_engine.specs.World.{World}
use Rattle.child_edge.specs.Faithful.{Entry, at}
use Rattle.child_edge.specs.Kept.{HoldsSheet}
use Rattle.offline_programs.specs.declared.fault.RunFault.{RunFault}
use Rattle.offline_programs.specs.declared.fault.RunFault.TheVariants as fault
use Rattle.driver.specs.Reports.{Report, printed_text}
use Rattle.driver.specs.Items.{Item, RunStep, after_fault, entries_of, broke, print_fault, halt, printed}
use Rattle.driver.specs.Place.{RunPlace, Rules, Tries, run_at}
use Rattle.driver.specs.Steps.{Fails, Goes, Run, asks, breaks, prints_fault, hears, heeds, interrupts, joins, rewrites, stalls_all, takes, prints, watches, takes_whole, refuses_whole, takes_alone, takes_edits, carries, receives}
use Rattle.driver.specs.Laws.{CutAt, PrintedAfter, trace}
use Rattle.driver.proofs.Courses.{Course, course_on, goes_course}
use Rattle.driver.proofs.Gates.{at_once_course, together_course}

pub cut_anywhere : {A C K : Type 0} (R : Rules A C K) (p q : RunPlace A C K) (todo left : List Item) (first last : List RunStep)
    → Run R p todo (first ++ last) left q → CutAt R p todo first last left q
cut_anywhere R p q todo left [] last r = record { there = p; then_to_do = todo; ran = (refl, refl); goes_on = r }
cut_anywhere R p q todo left (s ∷ first) last (next, mid, goes, more) =
    let so = cut_anywhere R mid q next left first last more in
    record { there = so.there; then_to_do = so.then_to_do; ran = (next, mid, goes, so.ran); goes_on = so.goes_on }

-- What a step leaves of the disk.

pub no_step : (w : World) (d : DiskView) → Course w d [] w d
no_step w d = goes_course w d [] w d (refl, refl)

-- an item failed at this step
pub record Broke {A C K : Type 0} (R : Rules A C K) (p : RunPlace A C K) (s : RunStep) (next : List Item) (mid : RunPlace A C K) : Type 0 where
  pub item : Item
  pub entries : List Entry
  pub why : RunFault
  pub fails : Fails R p item entries why mid
  pub step : s ≡ broke entries why
  pub left : next ≡ after_fault why

pub step_course : {A C K : Type 0} (R : Rules A C K) (p mid : RunPlace A C K) (todo next : List Item) (s : RunStep) → Goes R p todo s next mid
    → Course p.world p.disk (entries_of s) mid.world mid.disk ⊎ Broke R p s next mid
step_course R p mid todo next s (asks now t a c says) = inl (no_step p.world p.disk)
step_course R p mid todo next s (watches q w c a rest wakes woken) = inl (no_step p.world p.disk)
step_course R p mid todo next s (hears seat most events c rest h) = inl (no_step p.world p.disk)
step_course R p mid todo next s (takes from events outcomes followed w c d rest t) = inl (together_course R.sources.after (run_at p) events outcomes followed (at w c d) t)
step_course R p mid todo next s (joins events outcomes first more later followed a w c d rest j t) =
    inl (together_course R.sources.after (run_at p) (events ++ more) (outcomes ++ later) followed (at w c d) t)
step_course R p mid todo next s (takes_whole first events outcomes w d rest t) = inl (at_once_course p.world events outcomes w p.disk d t.kept)
step_course R p mid todo next s (refuses_whole first events before last rest r) = inl (no_step p.world p.disk)
step_course R p mid todo next s (takes_edits up_to events done outcomes w d rest first t) = inl (at_once_course p.world done outcomes w p.disk d t.kept)
step_course R p mid todo next s (takes_alone x o w d rest gives kept) = inl (goes_course p.world p.disk (entries_of s) w d (w, d, gives, kept, (refl, refl)))
step_course R p mid todo next s (carries o answer c rest went) = inl (no_step p.world p.disk)
step_course R p mid todo next s (receives seat x c rest was) = inl (no_step p.world p.disk)
step_course R p mid todo next s (rewrites line o w d rest g k) =
    inl (goes_course p.world p.disk (entries_of s) w d (w, d, g, k, (refl, refl)))
step_course R p mid todo next s (stalls_all rest) = inl (no_step p.world p.disk)
step_course R p mid todo next s (interrupts name reported c rest i) = inl (no_step p.world p.disk)
step_course R p mid todo next s (prints t k rest tries) = inl (no_step p.world p.disk)
step_course R p mid todo next s (heeds c now n a rest clock h) = inl (no_step p.world p.disk)
step_course R p mid todo next s (breaks i entries why q rest fails) = inr (record { item = i; entries = entries; why = why; fails = fails; step = refl; left = refl })
step_course R p mid todo next s (prints_fault why whole k tries) = inl (no_step p.world p.disk)

-- After a fault nothing is printed but it.

pub after_halt : {A C K : Type 0} (R : Rules A C K) (p mid : RunPlace A C K) (why : RunFault) (s : RunStep) (next : List Item) → Goes R p (halt why ∷ []) s next mid → ⊥
after_halt R p mid why s next (breaks i entries w q rest fails) = elim fails [ ]

halted : {A C K : Type 0} (R : Rules A C K) (p q : RunPlace A C K) (why : RunFault) (left : List Item) (before after : List RunStep) (s : Report)
    → Run R p (halt why ∷ []) (before ++ printed s ∷ after) left q → ⊥
halted R p q why left [] after s (next, mid, goes, more) = after_halt R p mid why (printed s) next goes
halted R p q why left (x ∷ before) after s (next, mid, goes, more) = after_halt R p mid why x next goes

fault_first : {A C K : Type 0} (R : Rules A C K) (p mid : RunPlace A C K) (why : RunFault) (s : Report) (next : List Item) → Goes R p (print_fault why ∷ []) (printed s) next mid → ⊥
fault_first R p mid why s next goes = elim goes [ ]

fault_next : {A C K : Type 0} (R : Rules A C K) (p mid : RunPlace A C K) (why : RunFault) (s : RunStep) (next : List Item) → Goes R p (print_fault why ∷ []) s next mid → next ≡ halt why ∷ []
fault_next R p mid why s next (prints_fault w whole k tries) = refl
fault_next R p mid why s next (breaks i entries w q rest fails) = absurd (elim fails [ ])

fault_only : {A C K : Type 0} (R : Rules A C K) (p q : RunPlace A C K) (why : RunFault) (left : List Item) (before after : List RunStep) (s : Report)
    → Run R p (print_fault why ∷ []) (before ++ printed s ∷ after) left q → ⊥
fault_only R p q why left [] after s (next, mid, goes, more) = fault_first R p mid why s next goes
fault_only R p q why left (x ∷ before) after s (next, mid, goes, more) =
    halted R mid q why left before after s (subst (λ (t : List Item). Run R mid t (before ++ printed s ∷ after) left q) (fault_next R p mid why x next goes) more)

pub after_is : (why : RunFault) → (after_fault why ≡ halt why ∷ []) ⊎ (after_fault why ≡ print_fault why ∷ [])
after_is fault.Input = inr refl
after_is fault.InputTooLong = inr refl
after_is fault.Output = inl refl
after_is fault.OutOfMemory = inr refl
after_is (fault.Host f) = inr refl
after_is (fault.Open cause) = inr refl
after_is fault.InUse = inr refl
after_is fault.SecondFile = inr refl

no_words : {A C K : Type 0} (R : Rules A C K) (p q : RunPlace A C K) (why : RunFault) (next left : List Item) (before after : List RunStep) (s : Report)
    → next ≡ after_fault why → Run R p next (before ++ printed s ∷ after) left q → ⊥
no_words {A = A} {C = C} {K = K} R p q why next left before after s is r = by (after_is why)
  where
    by : ((after_fault why ≡ halt why ∷ []) ⊎ (after_fault why ≡ print_fault why ∷ [])) → ⊥
    by (inl e) = halted R p q why left before after s (subst (λ (t : List Item). Run R p t (before ++ printed s ∷ after) left q) (is ∙ e) r)
    by (inr e) = fault_only R p q why left before after s (subst (λ (t : List Item). Run R p t (before ++ printed s ∷ after) left q) (is ∙ e) r)

-- This was printed there, the steps before led there, and the others go on from there.
pub record PrintedThere {A C K : Type 0} (R : Rules A C K) (p q : RunPlace A C K) (todo left : List Item) (before after : List RunStep) (s : Report) : Type 0 where
  pub there : RunPlace A C K
  pub to_do : List Item
  pub ran : Run R p todo before to_do there
  pub course : Course p.world p.disk (trace before) there.world there.disk
  pub sink : K
  pub tries : Tries R.sink there.sink there.disk (printed_text R.sink.voice there.world s) true sink
  pub then_to_do : List Item
  pub goes : Goes R there to_do (printed s) then_to_do (record there { sink = sink })
  pub goes_on : Run R (record there { sink = sink }) then_to_do after left q

pub printed_there : {A C K : Type 0} (R : Rules A C K) (p q : RunPlace A C K) (todo left : List Item) (before after : List RunStep) (s : Report)
    → Run R p todo (before ++ printed s ∷ after) left q → PrintedThere R p q todo left before after s
printed_there R p q todo left [] after s (next, mid, prints x k rest tries, more) =
    record { there = p; to_do = todo; ran = (refl, refl); course = no_step p.world p.disk; sink = k; tries = tries; then_to_do = next; goes = prints x k rest tries; goes_on = more }
printed_there R p q todo left (x ∷ before) after s (next, mid, goes, more) = by (printed_there R mid q next left before after s more) (step_course R p mid todo next x goes)
  where
    by : PrintedThere R mid q next left before after s → (Course p.world p.disk (entries_of x) mid.world mid.disk ⊎ Broke R p x next mid) → PrintedThere R p q todo left (x ∷ before) after s
    by so (inl c) = record {
      there = so.there;
      to_do = so.to_do;
      ran = (next, mid, goes, so.ran);
      course = course_on p.world p.disk (entries_of x) mid.world mid.disk (trace before) so.there.world so.there.disk c so.course;
      sink = so.sink;
      tries = so.tries;
      then_to_do = so.then_to_do;
      goes = so.goes;
      goes_on = so.goes_on;
    }
    by so (inr b) = absurd (no_words R mid q b.why next left before after s b.left more)

pub replies_follow : {A C K : Type 0} (R : Rules A C K) (p q : RunPlace A C K) (todo left : List Item) (before after : List RunStep) (s : Report)
    → HoldsSheet p.world p.disk → Run R p todo (before ++ printed s ∷ after) left q → PrintedAfter R p todo before s
replies_follow R p q todo left before after s held r =
    let so = printed_there R p q todo left before after s r in
    record { there = so.there; to_do = so.to_do; ran = so.ran; runs = so.course.runs; holds = so.course.holds held; sink = so.sink; tries = so.tries }

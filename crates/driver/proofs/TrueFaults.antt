-- A fault of a run is true of its disk, where those of its agenda are.
use Rattle.std.proofs.Common.{◌≡◌, inl, inr, ℕ, ◌≤◌, ◌+◌, List, [], ◌∷◌, ◌++◌, arith, refl, sym, ap, subst, ◌∙◌, Err, Ok}
use Rattle.std.proofs.lemmas.Bool.{true≢false}
use Rattle.std.specs.Prelude.{◌⊎◌, Bool, true, false, IfErr, Option, None, Some, Result, min}
use Rattle.std.proofs.Math.Nat.{le-min, min-le_left, min-le_right}
use Rattle.disk_model.specs.Disk.{DiskView, Rises, SameDisk, greatest_count}
use Rattle.journal.specs.declared.opening.OpenCause.{OpenCause}
use Rattle.journal.specs.declared.opening.OpenCause.TheVariants as opens
use Rattle.session_engine.specs.World.{World}
use Rattle.session_engine.specs.Faults.{CauseOf}
use Rattle.host_events.specs.declared.event.Event.{Event}
use Rattle.host_events.specs.declared.outcome.HostFault.{HostFault}
use Rattle.host_events.specs.declared.outcome.HostFault.TheVariants as hosts
use Rattle.host_events.specs.declared.outcome.Outcome.{Outcome}
use Rattle.host_events.specs.declared.reply.Reply.{Reply}
use Rattle.child_edge.specs.Faithful.{Entry, at}
use Rattle.child_edge.specs.Together.{entries_after}
use Rattle.child_edge.specs.Reported.{reported}
use Rattle.tellings.specs.declared.note.Note.{Note}
use Rattle.tellings.specs.Voice.{Voice, IsWithheld}
use Rattle.offline_programs.specs.declared.fault.RunFault.{RunFault}
use Rattle.offline_programs.specs.declared.fault.RunFault.TheVariants as fault
use Rattle.driver.specs.declared.action.Action.{Action}
use Rattle.driver.specs.declared.action.Action.TheVariants as action
use Rattle.driver.specs.Items.{Item, RunStep, after_fault, ask, entries_of, items_by, notes, printing_joined, print_fault, halt, taking_due}
use Rattle.child_edge.specs.Faithful.{due_of}
use Rattle.driver.specs.Items as item
use Rattle.driver.specs.Place.{RunPlace, Rules, run_at}
use Rattle.driver.specs.Steps.{Fails, Goes, Run}
use Rattle.driver.specs.Steps as step
use Rattle.driver.specs.TrueFaults.{IsTrueAtOpening, IsTrueFault, IsTrueOf, IsTrueOfHost}
use Rattle.driver.specs.Over.{Over, ProgramParts, first_place, not_opened, ran_over}
use Rattle.driver.proofs.Courses.{Course}
use Rattle.driver.proofs.Order.{Broke, after_halt, after_is, step_course}
use Rattle.driver.proofs.Gates.{up_to_course}

-- A failure after this moment is one after an earlier one.

min_since : (most a b c : ℕ) → a ≤ b → min (b + 1) most ≤ c → min (a + 1) most ≤ c
min_since most a b c later rises =
    let first = min-le_left (a + 1) most in
    let both : min (a + 1) most ≤ min (b + 1) most = le-min (omega (arith, first, later)) (min-le_right (a + 1) most) in
    omega (arith, both, rises)

host_since : (f : HostFault) (a b c : DiskView) → SameDisk a b → IsTrueOfHost f b c → IsTrueOfHost f a c
host_since hosts.Closed a b c same t = tt
host_since hosts.Disk a b c same t = min_since greatest_count a.faults b.faults c.faults same.later t
host_since hosts.OutOfMemory a b c same t = tt
host_since hosts.JournalFull a b c same t = tt

true_since : (why : RunFault) (a b c : DiskView) → SameDisk a b → IsTrueFault why b c → IsTrueFault why a c
true_since fault.Input a b c same t = tt
true_since fault.InputTooLong a b c same t = tt
true_since fault.Output a b c same t = tt
true_since fault.OutOfMemory a b c same t = tt
true_since (fault.Host f) a b c same t = host_since f a b c same t
true_since (fault.Open why) a b c same t = absurd t
true_since fault.InUse a b c same t = tt
true_since fault.SecondFile a b c same t = tt

cause_true : (f : HostFault) (w : World) (e : Event) (a b : DiskView) → CauseOf w e a b f → IsTrueOfHost f a b
cause_true hosts.Closed w e a b cause = tt
cause_true hosts.Disk w e a b cause = cause.0
cause_true hosts.OutOfMemory w e a b cause = tt
cause_true hosts.JournalFull w e a b cause = tt

withheld_true : (V : Voice) (why : RunFault) (a b : DiskView) → IsWithheld V why → IsTrueFault why a b
withheld_true V why a b (inl is) = subst (λ (x : RunFault). IsTrueFault x a b) (sym is) tt
withheld_true V why a b (inr (is, takes)) = subst (λ (x : RunFault). IsTrueFault x a b) (sym is) tt

-- Of what is to be done nothing comes after a fault.

abbrev pub IsDoing : Item → Type 0
IsDoing item.ask = Unit {0}
IsDoing (item.watch q) = Unit {0}
IsDoing (item.hear seat most) = Unit {0}
IsDoing (item.take from events) = Unit {0}
IsDoing (item.take_transaction first events) = Unit {0}
IsDoing (item.take_edits up_to events) = Unit {0}
IsDoing (item.take_alone e) = Unit {0}
IsDoing (item.carry o) = Unit {0}
IsDoing (item.receive seat) = Unit {0}
IsDoing (item.join events) = Unit {0}
IsDoing (item.rewrite line) = Unit {0}
IsDoing item.stall = Unit {0}
IsDoing (item.interrupt name) = Unit {0}
IsDoing (item.print s) = Unit {0}
IsDoing (item.heed c) = Unit {0}
IsDoing (item.print_fault why) = ⊥
IsDoing (item.halt why) = ⊥

abbrev pub AreDoing : List Item → Type 0
AreDoing [] = Unit {0}
AreDoing (i ∷ todo) = IsDoing i × AreDoing todo

doing_on : (xs ys : List Item) → AreDoing xs → AreDoing ys → AreDoing (xs ++ ys)
doing_on [] ys all more = more
doing_on (x ∷ xs) ys all more = (all.0, doing_on xs ys all.1 more)

action_doing : (t : Action) → AreDoing (items_by t)
action_doing action.End = tt
action_doing action.Nothing = (tt, tt)
action_doing (action.Watch input patience) = (tt, (tt, tt))
action_doing (action.Hear seat most) = (tt, (tt, tt))
action_doing (action.Lines first events) = (tt, (tt, tt))
action_doing (action.Transaction first events) = (tt, (tt, tt))
action_doing (action.Edits up_to events) = (tt, (tt, tt))
action_doing (action.Alone e) = (tt, (tt, tt))
action_doing (action.Receive seat) = (tt, (tt, tt))
action_doing (action.Checkpoint line) = (tt, (tt, tt))
action_doing action.Stall = (tt, (tt, tt))
action_doing (action.Interrupt name) = (tt, (tt, tt))
action_doing (action.Show s) = (tt, (tt, (tt, tt)))

notes_doing : (n : Option Note) → AreDoing (notes n)
notes_doing None = tt
notes_doing (Some n) = (tt, tt)

due_doing : (due : Option Event) (rest : List Item) → AreDoing rest → AreDoing (taking_due due ++ rest)
due_doing None rest all = all
due_doing (Some e) rest all = (tt, all)

joined_doing : (first : Option ℕ) (outcomes later : List Outcome) (replies : List Reply) (rest : List Item) → AreDoing rest → AreDoing (printing_joined first outcomes later replies rest)
joined_doing None outcomes later replies rest all = (tt, (tt, (tt, all)))
joined_doing (Some first) outcomes later replies rest all = (tt, (tt, (tt, (tt, all))))

-- A fault that is left is true.

abbrev pub IsTrueLeft : List Item → DiskView → DiskView → Type 0
IsTrueLeft (halt why ∷ rest) a b = IsTrueFault why a b
IsTrueLeft _ a b = Unit {0}

left_doing : (todo : List Item) (a b : DiskView) → AreDoing todo → IsTrueLeft todo a b
left_doing [] a b all = tt
left_doing (item.ask ∷ rest) a b all = tt
left_doing (item.watch q ∷ rest) a b all = tt
left_doing (item.hear seat most ∷ rest) a b all = tt
left_doing (item.take from events ∷ rest) a b all = tt
left_doing (item.take_transaction first events ∷ rest) a b all = tt
left_doing (item.take_edits up_to events ∷ rest) a b all = tt
left_doing (item.take_alone e ∷ rest) a b all = tt
left_doing (item.carry o ∷ rest) a b all = tt
left_doing (item.receive seat ∷ rest) a b all = tt
left_doing (item.join events ∷ rest) a b all = tt
left_doing (item.rewrite line ∷ rest) a b all = tt
left_doing (item.stall ∷ rest) a b all = tt
left_doing (item.interrupt name ∷ rest) a b all = tt
left_doing (item.print s ∷ rest) a b all = tt
left_doing (item.heed c ∷ rest) a b all = tt
left_doing (item.print_fault why ∷ rest) a b all = absurd all.0
left_doing (item.halt why ∷ rest) a b all = absurd all.0

left_since : (todo : List Item) (a b c : DiskView) → SameDisk a b → IsTrueLeft todo b c → IsTrueLeft todo a c
left_since [] a b c same t = tt
left_since (item.ask ∷ rest) a b c same t = tt
left_since (item.watch q ∷ rest) a b c same t = tt
left_since (item.hear seat most ∷ rest) a b c same t = tt
left_since (item.take from events ∷ rest) a b c same t = tt
left_since (item.take_transaction first events ∷ rest) a b c same t = tt
left_since (item.take_edits up_to events ∷ rest) a b c same t = tt
left_since (item.take_alone e ∷ rest) a b c same t = tt
left_since (item.carry o ∷ rest) a b c same t = tt
left_since (item.receive seat ∷ rest) a b c same t = tt
left_since (item.join events ∷ rest) a b c same t = tt
left_since (item.rewrite line ∷ rest) a b c same t = tt
left_since (item.stall ∷ rest) a b c same t = tt
left_since (item.interrupt name ∷ rest) a b c same t = tt
left_since (item.print s ∷ rest) a b c same t = tt
left_since (item.heed x ∷ rest) a b c same t = tt
left_since (item.print_fault why ∷ rest) a b c same t = tt
left_since (item.halt why ∷ rest) a b c same t = true_since why a b c same t

module _ {A C K : Type 0} (R : Rules A C K) (own : (a : A) (w : World) (n : ℕ) (why : RunFault) (b : A) → R.agenda.says a w n (Err why) b → (d : DiskView) → IsTrueFault why d d) where
  fails_true : (p q : RunPlace A C K) (i : Item) (entries : List Entry) (why : RunFault) → Fails R p i entries why q → IsTrueFault why p.disk q.disk
  fails_true p q i entries why (step.unsaid now w a clock said) = own p.agenda p.world now why a said p.disk
  fails_true p q i entries why (step.uncounted many) = tt
  fails_true p q i entries why (step.unwatched x c wakes) = tt
  fails_true p q i entries why (step.unheard seat most) = tt
  fails_true p q i entries why (step.too_many from events many) = tt
  fails_true p q i entries why (step.untaken from events) = tt
  fails_true p q i entries why (step.lost from events h l) = l.failed
  fails_true p q i entries why (step.broken from events bs e f w c d h t stopped) =
      host_since f p.disk d h.store.disk (up_to_course R.sources.after (run_at p) events entries e (at w c d) t).same (cause_true f w e d h.store.disk stopped.cause)
  fails_true p q i entries why (step.too_many_heard events many) = tt
  fails_true p q i entries why (step.unjoined events) = tt
  fails_true p q i entries why (step.lost_joined events all a h all_are l) = l.failed
  fails_true p q i entries why (step.broken_joined events all a bs e f w c d h all_are t stopped) =
      host_since f p.disk d h.store.disk (up_to_course R.sources.after (run_at p) all entries e (at w c d) t).same (cause_true f w e d h.store.disk stopped.cause)
  fails_true p q i entries why (step.too_many_whole first events many) = tt
  fails_true p q i entries why (step.untaken_whole first events) = tt
  fails_true p q i entries why (step.lost_whole first events h l) = l.lost.failed
  fails_true p q i entries why (step.untaken_edits up_to events) = tt
  fails_true p q i entries why (step.lost_edits up_to events h l) = l.lost.failed
  fails_true p q i entries why (step.broken_alone x f h stopped) = cause_true f p.world x p.disk h.store.disk stopped.cause
  fails_true p q i entries why (step.unreceived seat) = tt
  fails_true p q i entries why (step.unwritten line f h stopped) = cause_true f p.world _ p.disk h.store.disk stopped.cause
  fails_true p q i entries why (step.unnumbered line many) = tt
  fails_true p q i entries why step.unstalled = tt
  fails_true p q i entries why (step.uncounted_line first outcomes many) = tt
  fails_true p q i entries why (step.unprinted s w k is tries) = withheld_true R.sink.voice why p.disk p.disk is

  step_doing : (p mid : RunPlace A C K) (todo next : List Item) (s : RunStep) → Goes R p todo s next mid → AreDoing todo → AreDoing next ⊎ Broke R p s next mid
  step_doing p mid todo next s (step.asks now t a clock said) all = inl (action_doing t)
  step_doing p mid todo next s (step.watches x w c a rest wakes reported) all = inl all.1
  step_doing p mid todo next s (step.hears seat most events c rest h) all = inl (tt, all.1)
  step_doing p mid todo next s (step.takes from events outcomes followed w c d rest t) all = inl (tt, (tt, (tt, all.1)))
  step_doing p mid todo next s (step.joins events outcomes first more later followed a w c d rest j t) all =
      inl (joined_doing first outcomes later (reported (entries_after followed)) rest all.1)
  step_doing p mid todo next s (step.takes_whole first events outcomes w d rest t) all = inl (tt, (tt, (tt, all.1)))
  step_doing p mid todo next s (step.refuses_whole first events before last rest r) all = inl (tt, (tt, (tt, all.1)))
  step_doing p mid todo next s (step.takes_edits up_to events done outcomes w d rest first t) all = inl (tt, (tt, (tt, all.1)))
  step_doing p mid todo next s (step.takes_alone x o w d rest gives kept) all = inl (tt, all.1)
  step_doing p mid todo next s (step.carries o answer c rest went) all = inl (tt, (tt, (tt, due_doing (due_of o.effect answer) rest all.1)))
  step_doing p mid todo next s (step.receives seat x c rest was) all = inl (tt, all.1)
  step_doing p mid todo next s (step.rewrites line o w d rest gives kept) all = inl (tt, (tt, (tt, all.1)))
  step_doing p mid todo next s (step.stalls_all rest) all = inl (tt, all.1)
  step_doing p mid todo next s (step.interrupts name reported c rest i) all = inl (tt, all.1)
  step_doing p mid todo next s (step.prints t k rest went) all = inl all.1
  step_doing p mid todo next s (step.heeds c now n a rest clock h) all = inl (doing_on (notes n) rest (notes_doing n) all.1)
  step_doing p mid todo next s (step.breaks i entries why there rest fails) all = inr (record { item = i; entries = entries; why = why; fails = fails; step = refl; left = refl })
  step_doing p mid todo next s (step.prints_fault why whole k went) all = absurd all.0

  -- after a fault
  at_halt : (p q : RunPlace A C K) (a : DiskView) (why : RunFault) (left : List Item) (steps : List RunStep) → IsTrueFault why a p.disk → Run R p (halt why ∷ []) steps left q → IsTrueLeft left a q.disk
  at_halt p q a why left [] t r = subst (λ (l : List Item). IsTrueLeft l a q.disk) (sym r.0) (subst (λ (x : RunPlace A C K). IsTrueFault why a x.disk) (sym r.1) t)
  at_halt p q a why left (s ∷ steps) t (next, mid, goes, more) = absurd (after_halt R p mid why s next goes)

  at_fault : (p q : RunPlace A C K) (a : DiskView) (why : RunFault) (left : List Item) (steps : List RunStep) → IsTrueFault why a p.disk → Run R p (print_fault why ∷ []) steps left q → IsTrueLeft left a q.disk
  at_fault p q a why left [] t r = subst (λ (l : List Item). IsTrueLeft l a q.disk) (sym r.0) tt
  at_fault p q a why left (s ∷ steps) t (next, mid, step.prints_fault w whole k tries, more) = at_halt mid q a why left steps t more
  at_fault p q a why left (s ∷ steps) t (next, mid, step.breaks i entries w x rest fails, more) = absurd (elim fails [ ])

  following_fault : (p q : RunPlace A C K) (a : DiskView) (why : RunFault) (next left : List Item) (steps : List RunStep) → next ≡ after_fault why → IsTrueFault why a p.disk → Run R p next steps left q → IsTrueLeft left a q.disk
  following_fault p q a why next left steps is t r = by (after_is why)
    where
      by : ((after_fault why ≡ halt why ∷ []) ⊎ (after_fault why ≡ print_fault why ∷ [])) → IsTrueLeft left a q.disk
      by (inl e) = at_halt p q a why left steps t (subst (λ (l : List Item). Run R p l steps left q) (is ∙ e) r)
      by (inr e) = at_fault p q a why left steps t (subst (λ (l : List Item). Run R p l steps left q) (is ∙ e) r)

  pub left_true : (p q : RunPlace A C K) (todo left : List Item) (steps : List RunStep) → AreDoing todo → Run R p todo steps left q → IsTrueLeft left p.disk q.disk
  left_true p q todo left [] all r = subst (λ (l : List Item). IsTrueLeft l p.disk q.disk) (sym r.0) (left_doing todo p.disk q.disk all)
  left_true p q todo left (s ∷ steps) all (next, mid, goes, more) = by (λ on. left_true mid q next left steps on more) (step_course R p mid todo next s goes) (step_doing p mid todo next s goes all)
    where
      broke : Broke R p s next mid → IsTrueLeft left p.disk q.disk
      broke b = following_fault mid q p.disk b.why next left steps b.left (fails_true p mid b.item b.entries b.why b.fails) more

      by : (AreDoing next → IsTrueLeft left mid.disk q.disk) → (Course p.world p.disk (entries_of s) mid.world mid.disk ⊎ Broke R p s next mid) → (AreDoing next ⊎ Broke R p s next mid) → IsTrueLeft left p.disk q.disk
      by on (inl c) (inl doing) = left_since left p.disk mid.disk q.disk c.same (on doing)
      by on (inl c) (inr b) = broke b
      by on (inr b) doing = broke b

-- A fault of a program is true of its disk.

open_true : (why : RunFault) (a b : DiskView) → IsTrueFault why a b → IsTrueOf why a b
open_true fault.Input a b t = tt
open_true fault.InputTooLong a b t = tt
open_true fault.Output a b t = tt
open_true fault.OutOfMemory a b t = tt
open_true (fault.Host f) a b t = t
open_true (fault.Open why) a b t = absurd t
open_true fault.InUse a b t = tt
open_true fault.SecondFile a b t = tt

abbrev is_disk : OpenCause → Bool
is_disk (opens.Damaged gate) = false
is_disk opens.NotASheet = false
is_disk opens.Disk = true
is_disk opens.OutOfMemory = false

opening_true : (why : OpenCause) (a b : DiskView) → (why ≡ opens.Disk → Rises a.faults b.faults) → ((why ≡ opens.Disk → ⊥) → b.faults ≡ a.faults) → IsTrueAtOpening why a b
opening_true (opens.Damaged gate) a b failed steady = steady (λ is. true≢false (sym (ap is_disk is)))
opening_true opens.NotASheet a b failed steady = steady (λ is. true≢false (sym (ap is_disk is)))
opening_true opens.Disk a b failed steady = failed refl
opening_true opens.OutOfMemory a b failed steady = steady (λ is. true≢false (sym (ap is_disk is)))

pub over_true : {A C K : Type 0} (R : Rules A C K) (own : (a : A) (w : World) (n : ℕ) (why : RunFault) (b : A) → R.agenda.says a w n (Err why) b → (d : DiskView) → IsTrueFault why d d)
    (first last : ProgramParts A C K) (answer : Result (Unit {0}) RunFault) → Over R first last answer → IfErr answer (λ why. IsTrueOf why first.disk last.disk)
over_true R own first last answer (ran_over (Ok done) o) = tt
over_true R own first last answer (ran_over (Err why) o) =
    open_true why first.disk last.disk (true_since why first.disk o.opened.now last.disk o.opened.same
    (left_true R own (first_place first o.opened) (record { asked = o.asked; agenda = last.agenda; world = o.world; disk = last.disk; sources = o.sources; sink = last.sink }) (ask ∷ []) (halt why ∷ []) o.steps (tt, tt) o.ran))
over_true R own first last answer (not_opened why o) = opening_true why first.disk last.disk o.failed o.steady

-- Of which faults an evaluation of fields breaks off.
use Rattle.std.proofs.Common.{◌≡◌, inl, inr, ℕ, List, [], ◌∷◌, ◌++◌, sym, subst, Ok, Err}
use Rattle.std.specs.Prelude.{None, Option, Result, Some}
use Rattle.host_events.specs.declared.outcome.HostFault.TheVariants as hosts
use Rattle.host_events.specs.declared.outcome.Outcome.{Outcome}
use Rattle.host_events.specs.declared.reply.Reply.{Reply}
use Rattle.journal.specs.declared.opening.OpenCause.{OpenCause}
use Rattle.session_engine.specs.Host.{HostView}
use Rattle.session_engine.specs.World.{World}
use Rattle.child_edge.specs.Faithful.{At, Entry, at}
use Rattle.child_edge.specs.Together.{entries_after}
use Rattle.child_edge.specs.Reported.{reported}
use Rattle.offline_programs.specs.declared.fault.RunFault.{RunFault}
use Rattle.offline_programs.specs.declared.fault.RunFault.TheVariants as fault
use Rattle.tellings.specs.declared.note.Note.{Note}
use Rattle.driver.specs.declared.action.Action.{Action}
use Rattle.driver.specs.declared.action.Action.TheVariants as action
use Rattle.driver.specs.Items.{Item, RunStep, after_fault, ask, halt, items_by, notes, printing_joined, taking_due}
use Rattle.host_events.specs.declared.event.Event.{Event}
use Rattle.child_edge.specs.Faithful.{due_of}
use Rattle.driver.specs.Items as item
use Rattle.driver.specs.Place.{RunPlace}
use Rattle.driver.specs.Steps.{Fails, Goes, Run}
use Rattle.driver.specs.Steps as step
use Rattle.evaluation.specs.Programs.{Finds}
use Rattle.evaluation.specs.declared.plan.Plan.{Plan}
use Rattle.field_agenda.specs.Looks.{LooksFor, looked, unlooked}
use Rattle.field_agenda.specs.Says.{AsksFrom, ComesToItsEnd, FieldsGoOn, GoesUnheard, SaysAt, asked, asks, ends, ends_with, goes_unheard, hears, interrupts, stalls, too_many_fields, unasked, uncounted, watches}
use Rattle.field_agenda.specs.Standing.{seen_due}
use Rattle.field_agenda.specs.declared.by_fields.ByFields.{ByFields}
use Rattle.field_agenda.specs.declared.stage.Stage.{Stage}
use Rattle.field_agenda.specs.declared.stage.Stage.TheVariants as stage
use Rattle.sheet_check.specs.Driven.{DriveBroke, IsOfEvaluation, broke_off, copy_begins, copy_place, copy_rules, unplanned}
use Rattle.sheet_check.specs.Evaluated.{Way, fault_on_copy}
use Rattle.sheet_check.specs.declared.marks.AllThere.{AllThere}
use Rattle.sheet_check.specs.declared.marks.Marks.{Marks}

-- a fault that a run of fields may have
abbrev IsOwn : RunFault → Type 0
IsOwn (fault.Host f) = Unit {0}
IsOwn fault.OutOfMemory = Unit {0}
IsOwn fault.Input = Unit {0}
IsOwn fault.InputTooLong = Unit {0}
IsOwn fault.Output = Unit {0}
IsOwn (fault.Open why) = ⊥
IsOwn fault.InUse = ⊥
IsOwn fault.SecondFile = ⊥

-- What the agenda says.

abbrev IsOwnAnswer : Result Action RunFault → Type 0
IsOwnAnswer (Ok t) = Unit {0}
IsOwnAnswer (Err why) = IsOwn why

of_action : (r : Result Action RunFault) (t : Action) → r ≡ Ok t → IsOwnAnswer r
of_action r t is = subst IsOwnAnswer (sym is) tt

of_memory : (r : Result Action RunFault) → r ≡ Err fault.OutOfMemory → IsOwnAnswer r
of_memory r is = subst IsOwnAnswer (sym is) tt

of_count : (r : Result Action RunFault) → r ≡ Err fault.InputTooLong → IsOwnAnswer r
of_count r is = subst IsOwnAnswer (sym is) tt

module _ {P : Type 0} where
  of_asking : (a : ByFields P) (w : World) (k id : ℕ) (r : Result Action RunFault) (b : ByFields P) → AsksFrom a w k id r b → IsOwnAnswer r
  of_asking a w k id r b (asked t lines is same) = of_action r t is
  of_asking a w k id r b (unasked is same) = of_memory r is

  of_end : (a : ByFields P) (w : World) (stopped : Option ℕ) (r : Result Action RunFault) (b : ByFields P) → ComesToItsEnd a w stopped r b → IsOwnAnswer r
  of_end a w stopped r b (ends_with counts count is same) = of_action r _ is
  of_end a w stopped r b (too_many_fields many is same) = of_count r is

  of_unheard : (a : ByFields P) (w : World) (now : ℕ) (r : Result Action RunFault) (b : ByFields P) → GoesUnheard a w now r b → IsOwnAnswer r
  of_unheard a w now r b (asks k id may asking) = of_asking a w k id r b asking
  of_unheard a w now r b (ends at free here so) = of_end a w at r b so
  of_unheard a w now r b (interrupts n id held none late is same) = of_action r _ is
  of_unheard a w now r b (stalls held none late over is same) = of_action r _ is
  of_unheard a w now r b (watches held none late going is same) = of_action r _ is

  of_going : (a : ByFields P) (w : World) (now : ℕ) (r : Result Action RunFault) (b : ByFields P) → FieldsGoOn a w now r b → IsOwnAnswer r
  of_going a w now r b (uncounted many is same) = of_count r is
  of_going a w now r b (hears seat due is same) = of_action r _ is
  of_going a w now r b (goes_unheard none goes) = of_unheard (seen_due a) w now r b goes

  of_look : (finds : Finds) (a : ByFields P) (w : World) (r : Result Action RunFault) (b : ByFields P) → LooksFor finds a w r b → IsOwnAnswer r
  of_look finds a w r b (looked ids how finding is same) = of_action r _ is
  of_look finds a w r b (unlooked is same) = of_memory r is

  of_saying : (how : Stage) (finds : Finds) (a : ByFields P) (w : World) (now : ℕ) (r : Result Action RunFault) (b : ByFields P) → SaysAt how finds a w now r b → IsOwnAnswer r
  of_saying stage.New finds a w now r b said = of_look finds a w r b said
  of_saying stage.Going finds a w now r b said = of_going a w now r b said
  of_saying (stage.Counted end) finds a w now r b said = of_action r _ said.0
  of_saying (stage.NoField id) finds a w now r b said = of_action r _ said.0
  of_saying (stage.NoProgram name) finds a w now r b said = of_action r _ said.0

-- What is to be done.

abbrev IsOwnItem : Item → Type 0
IsOwnItem item.ask = Unit {0}
IsOwnItem (item.watch q) = Unit {0}
IsOwnItem (item.hear seat most) = Unit {0}
IsOwnItem (item.take from events) = Unit {0}
IsOwnItem (item.take_transaction first events) = Unit {0}
IsOwnItem (item.take_edits up_to events) = Unit {0}
IsOwnItem (item.take_alone e) = Unit {0}
IsOwnItem (item.carry o) = Unit {0}
IsOwnItem (item.receive seat) = Unit {0}
IsOwnItem (item.join events) = Unit {0}
IsOwnItem (item.rewrite line) = Unit {0}
IsOwnItem item.stall = Unit {0}
IsOwnItem (item.interrupt name) = Unit {0}
IsOwnItem (item.print s) = Unit {0}
IsOwnItem (item.heed c) = Unit {0}
IsOwnItem (item.print_fault why) = IsOwn why
IsOwnItem (item.halt why) = IsOwn why

abbrev AreOwn : List Item → Type 0
AreOwn [] = Unit {0}
AreOwn (i ∷ todo) = IsOwnItem i × AreOwn todo

action_own : (t : Action) → AreOwn (items_by t)
action_own action.End = tt
action_own action.Nothing = (tt, tt)
action_own (action.Watch input patience) = (tt, (tt, tt))
action_own (action.Hear seat most) = (tt, (tt, tt))
action_own (action.Lines first events) = (tt, (tt, tt))
action_own (action.Transaction first events) = (tt, (tt, tt))
action_own (action.Edits up_to events) = (tt, (tt, tt))
action_own (action.Alone e) = (tt, (tt, tt))
action_own (action.Receive seat) = (tt, (tt, tt))
action_own (action.Checkpoint line) = (tt, (tt, tt))
action_own action.Stall = (tt, (tt, tt))
action_own (action.Interrupt name) = (tt, (tt, tt))
action_own (action.Show s) = (tt, (tt, (tt, tt)))

notes_own : (n : Option Note) (rest : List Item) → AreOwn rest → AreOwn (notes n ++ rest)
notes_own None rest all = all
notes_own (Some n) rest all = (tt, all)

joined_own : (first : Option ℕ) (outcomes later : List Outcome) (replies : List Reply) (rest : List Item) → AreOwn rest → AreOwn (printing_joined first outcomes later replies rest)
joined_own None outcomes later replies rest all = (tt, (tt, (tt, all)))
joined_own (Some first) outcomes later replies rest all = (tt, (tt, (tt, (tt, all))))

due_own : (due : Option Event) (rest : List Item) → AreOwn rest → AreOwn (taking_due due ++ rest)
due_own None rest all = all
due_own (Some e) rest all = (tt, all)

fault_own : (why : RunFault) → IsOwn why → AreOwn (after_fault why)
fault_own fault.Input own = (tt, tt)
fault_own fault.InputTooLong own = (tt, tt)
fault_own fault.Output own = (tt, tt)
fault_own fault.OutOfMemory own = (tt, tt)
fault_own (fault.Host f) own = (tt, tt)
fault_own (fault.Open why) own = absurd own
fault_own fault.InUse own = absurd own
fault_own fault.SecondFile own = absurd own

module _ {C : Type 0} (o : Way C) where
  abbrev Spot : Type 0
  Spot = RunPlace (ByFields AllThere) C Marks

  fails_own : (p q : Spot) (i : Item) (entries : List Entry) (why : RunFault) → Fails (copy_rules o) p i entries why q → IsOwn why
  fails_own p q i entries why (step.unsaid now w a clock said) = of_saying p.agenda.stage _ p.agenda p.world now (Err why) a said
  fails_own p q i entries why (step.uncounted many) = tt
  fails_own p q i entries why (step.unwatched x c wakes) = tt
  fails_own p q i entries why (step.unheard seat most) = tt
  fails_own p q i entries why (step.too_many from events many) = tt
  fails_own p q i entries why (step.untaken from events) = tt
  fails_own p q i entries why (step.lost from events h l) = tt
  fails_own p q i entries why (step.broken from events bs e f w c d h t stopped) = tt
  fails_own p q i entries why (step.too_many_heard events many) = tt
  fails_own p q i entries why (step.unjoined events) = tt
  fails_own p q i entries why (step.lost_joined events all a h all_are l) = tt
  fails_own p q i entries why (step.broken_joined events all a bs e f w c d h all_are t stopped) = tt
  fails_own p q i entries why (step.too_many_whole first events many) = tt
  fails_own p q i entries why (step.untaken_whole first events) = tt
  fails_own p q i entries why (step.lost_whole first events h l) = tt
  fails_own p q i entries why (step.untaken_edits up_to events) = tt
  fails_own p q i entries why (step.lost_edits up_to events h l) = tt
  fails_own p q i entries why (step.broken_alone x f h gone) = tt
  fails_own p q i entries why (step.unreceived seat) = tt
  fails_own p q i entries why (step.unwritten line f h stopped) = tt
  fails_own p q i entries why (step.unnumbered line many) = tt
  fails_own p q i entries why step.unstalled = tt
  fails_own p q i entries why (step.uncounted_line first outcomes many) = tt
  fails_own p q i entries why (step.unprinted s w k (inl is) tries) = subst IsOwn (sym is) tt
  fails_own p q i entries why (step.unprinted s w k (inr (is, takes)) tries) = subst IsOwn (sym is) tt

  step_own : (p mid : Spot) (todo next : List Item) (s : RunStep) → AreOwn todo → Goes (copy_rules o) p todo s next mid → AreOwn next
  step_own p mid todo next s all (step.asks now t a clock said) = action_own t
  step_own p mid todo next s all (step.watches x w c a rest wakes turned) = all.1
  step_own p mid todo next s all (step.hears seat most events c rest h) = (tt, all.1)
  step_own p mid todo next s all (step.takes from events outcomes followed w c d rest t) = (tt, (tt, (tt, all.1)))
  step_own p mid todo next s all (step.joins events outcomes first more later followed a w c d rest j t) = joined_own first outcomes later (reported (entries_after followed)) rest all.1
  step_own p mid todo next s all (step.takes_whole first events outcomes w d rest t) = (tt, (tt, (tt, all.1)))
  step_own p mid todo next s all (step.refuses_whole first events before last rest r) = (tt, (tt, (tt, all.1)))
  step_own p mid todo next s all (step.takes_edits up_to events done outcomes w d rest first t) = (tt, (tt, (tt, all.1)))
  step_own p mid todo next s all (step.takes_alone x o w d rest gives kept) = (tt, all.1)
  step_own p mid todo next s all (step.carries o answer c rest went) = (tt, (tt, (tt, due_own (due_of o.effect answer) rest all.1)))
  step_own p mid todo next s all (step.receives seat x c rest was) = (tt, all.1)
  step_own p mid todo next s all (step.rewrites line one w d rest gives kept) = (tt, (tt, (tt, all.1)))
  step_own p mid todo next s all (step.stalls_all rest) = (tt, all.1)
  step_own p mid todo next s all (step.interrupts name came c rest i) = (tt, all.1)
  step_own p mid todo next s all (step.prints t k rest tries) = all.1
  step_own p mid todo next s all (step.heeds c now n a rest clock h) = notes_own n rest all.1
  step_own p mid todo next s all (step.breaks i entries why there rest fails) = fault_own why (fails_own p mid i entries why fails)
  step_own p mid todo next s all (step.prints_fault why whole k tries) = (all.0, tt)

  run_own : (p q : Spot) (todo left : List Item) (steps : List RunStep) → AreOwn todo → Run (copy_rules o) p todo steps left q → AreOwn left
  run_own p q todo left [] all (is, same) = subst AreOwn (sym is) all
  run_own p q todo left (s ∷ steps) all (next, mid, goes, more) = run_own mid q next left steps (step_own p mid todo next s all goes) more

-- The fault of a check by it.

on_copy : (cause : RunFault) → IsOwn cause → IsOfEvaluation (fault_on_copy cause)
on_copy (fault.Host hosts.Disk) own = tt
on_copy (fault.Host hosts.OutOfMemory) own = tt
on_copy (fault.Host hosts.JournalFull) own = tt
on_copy (fault.Host hosts.Closed) own = tt
on_copy fault.OutOfMemory own = tt
on_copy fault.Input own = tt
on_copy fault.InputTooLong own = tt
on_copy fault.Output own = tt
on_copy (fault.Open why) own = absurd own
on_copy fault.InUse own = absurd own
on_copy fault.SecondFile own = absurd own

pub of_evaluation : {C : Type 0} (o : Way C) (plan : Plan) (s : At C) (h : HostView) (c : C) (cause why : RunFault) → why ≡ fault_on_copy cause → DriveBroke o plan s h c cause → IsOfEvaluation why
of_evaluation o plan s h c cause why is (unplanned memory same stands) = subst IsOfEvaluation (sym is) (on_copy cause (subst IsOwn (sym memory) tt))
of_evaluation o plan s h c cause why is (broke_off b) =
    let own = run_own o (copy_begins plan b.programs s) (copy_place b.asked b.agenda b.kept (at b.world c h.store.disk)) (ask ∷ []) (halt cause ∷ []) b.steps (tt, tt) b.ran in
    subst IsOfEvaluation (sym is) (on_copy cause own.0)

-- It is none of the writer's.
pub never_output : (why : RunFault) → IsOfEvaluation why → why ≡ fault.Output → ⊥
never_output why of e = subst IsOfEvaluation e of

-- It is never that a disk wasn't opened.
pub never_open : (why : RunFault) (x : OpenCause) → IsOfEvaluation why → why ≡ fault.Open x → ⊥
never_open why x of e = subst IsOfEvaluation e of

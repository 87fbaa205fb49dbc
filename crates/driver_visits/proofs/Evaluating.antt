-- Where fields of a copy are evaluated, nothing but evaluations is asked; so each field keeps its session and its input.
use Rattle.std.proofs.Common.{◌≡◌, ◌⊎◌, ◌∙◌, ⊎_elim, inl, inr, ℕ, List, [], ◌∷◌, ◌++◌, Bool, Option, Some, None, Ok, Err, zero, suc, refl, sym, ap, subst, append-nil, append_assoc}
use Rattle.std.specs.Prelude.{Result, length, map}
use Rattle.std.specs.List.{AllByRecursion}
use Rattle.worksheet.specs.declared.op.Op.{Op}
use Rattle.worksheet.specs.declared.op.Op.TheVariants as op
use Rattle.worksheet.specs.declared.field.Field.{Field}
use Rattle.worksheet.specs.declared.refusal.Refusal.{Refusal}
use Rattle.worksheet.specs.Checks.{Allowed, AllowedFrom, first_of, first_refusal}
use Rattle.worksheet.specs.Ops.{sheet_of}
use Rattle.block_tree.specs.declared.reason.Reason.{Reason}
use Rattle.plugin_core.specs.declared.step.Ended.{Ended}
use Rattle.host_events.specs.declared.command.Command.{Command}
use Rattle.host_events.specs.declared.command.Command.TheVariants as command
use Rattle.host_events.specs.declared.event.ChildEvent.TheVariants as child
use Rattle.host_events.specs.declared.event.Event.{Event}
use Rattle.host_events.specs.declared.event.Event.TheVariants as event
use Rattle.host_events.specs.declared.outcome.Effect.{Effect}
use Rattle.host_events.specs.declared.outcome.Effect.TheVariants as effect
use Rattle.host_events.specs.declared.outcome.Outcome.{Outcome}
use Rattle.session_engine.specs.World.{Going, World, life_of, with_number, with_op_if}
use Rattle.session_engine.specs.Does.{Runs}
use Rattle.session_engine.specs.Refused.{command_refusals}
use Rattle.session_engine.specs.inside.Parts.{goes_on, without_life}
use Rattle.session_engine.specs.inside.Words.{with_piece}
use Rattle.session_engine.proofs.Losing.{if_ended, if_pieced}
use Rattle.host_laws.specs.inside.Given.{Commanded, Ended_by, GivesByParts, Pieced, step_at}
use Rattle.host_laws.proofs.ByParts.{by_parts}
use Rattle.host_laws.proofs.FieldLaws.{HasItsLine, KeepsInput, its_line_stays}
use Rattle.host_laws.proofs.Living.{Sound}
use Rattle.host_laws.proofs.Showing.{ops_item, stepped}
use Rattle.child_calls.specs.Calls.{Answer, done, end, fault, no_memory, piece}
use Rattle.child_calls.specs.declared.seat.Seat.{Seat}
use Rattle.child_edge.specs.Faithful.{At, Entry, FirstOf, Follows, Relation, at, due_after, due_of}
use Rattle.theorem.specs.Copies.{IsEvalOrChild}
use Rattle.child_edge.specs.Moments.{events_of}
use Rattle.child_edge.specs.Together.{CarriesOut, Followed, HearsOne, entries_after, group_entries, trace_of}
use Rattle.offline_programs.specs.declared.fault.RunFault.{RunFault}
use Rattle.offline_programs.specs.declared.fault.RunFault.TheVariants as run_fault
use Rattle.tellings.specs.declared.note.Note.{Note}
use Rattle.driver.specs.declared.action.Action.{Action}
use Rattle.driver.specs.Hearing.{HeardAfter, HeardReady, no_other, one_more}
use Rattle.driver.specs.Items.{Item, RunStep, after_fault, entries_of, items_by, notes, stalls, taking_due}
use Rattle.driver.specs.Items as item
use Rattle.driver.specs.Laws.{trace}
use Rattle.driver.specs.Place.{RunPlace, Rules, SinkRules, SourceRules, rules}
use Rattle.driver.specs.Steps.{Goes, Run}
use Rattle.driver.specs.Steps as step
use Rattle.driver.proofs.Courses.{events_append}
use Rattle.line_agenda.specs.Alone.{AsksLines}
use Rattle.evaluation.specs.Programs.{Finds}
use Rattle.field_agenda.specs.FieldsRules.{fields_rules}
use Rattle.field_agenda.specs.Joins.{FieldsJoin, goes_on as waits_on, none_join, some_join}
use Rattle.field_agenda.specs.Looks.{LooksFor, looked, unlooked}
use Rattle.field_agenda.specs.Says.{AsksFrom, ComesToItsEnd, FieldsGoOn, GoesUnheard, SaysAt, asked, asked_with, asks, asks_field, ends, ends_with, goes_unheard, hears, interrupts, interrupts_of, stalls as stalls_now, too_many_fields, unasked, uncounted, watches}
use Rattle.field_agenda.specs.Standing.{seen_due}
use Rattle.field_agenda.specs.declared.by_fields.ByFields.{ByFields}
use Rattle.field_agenda.specs.declared.stage.Stage.{Stage}
use Rattle.field_agenda.specs.declared.stage.Stage.TheVariants as stage

-- Evaluations, and what comes from lives.

abbrev pub AreOfEvals : List Event → Type 0
AreOfEvals events = AllByRecursion IsEvalOrChild events

all_joined : (es fs : List Event) → AreOfEvals es → AreOfEvals fs → AreOfEvals (es ++ fs)
all_joined [] fs h k = k
all_joined (e ∷ es) fs h k = (h.0, all_joined es fs h.1 k)

pub entries_joined : (bs cs : List Entry) → AreOfEvals (events_of bs) → AreOfEvals (events_of cs) → AreOfEvals (events_of (bs ++ cs))
entries_joined bs cs h k = subst AreOfEvals (sym (events_append bs cs)) (all_joined (events_of bs) (events_of cs) h k)

-- What they give keeps inputs.

-- no op was given, or one that keeps each field's input
abbrev KeptInputs : World → World → Type 0
KeptInputs w v = (v.ops ≡ w.ops) ⊎ ((o : Op) × (v.ops ≡ w.ops ++ o ∷ []) × ((id : ℕ) → KeepsInput id o))

one_op : (w u : World) (o : Op) → u.ops ≡ w.ops → ((id : ℕ) → KeepsInput id o) → KeptInputs w (with_op_if (Some o) u)
one_op w u o same keeps = inr (o, ap (λ (os : List Op). os ++ o ∷ []) same, keeps)

same_ops : (l : Going) (e : Option Ended) (w : World) → (goes_on l e w).ops ≡ w.ops
same_ops l None w = refl
same_ops l (Some e) w = refl

stays : (w v : World) → v ≡ w → KeptInputs w v
stays w v is = inl (ap (λ (x : World). x.ops) is)

by_end : (w : World) (x : Option Going) (why : Reason) (killed : Bool) (o : Outcome) (v : World) → Ended_by w x why killed o v → KeptInputs w v
by_end w None why killed o v given = stays w v given.1
by_end w (Some l) why killed o v given =
    subst (KeptInputs w) (sym given.1) (if_ended (λ (p : Option Op). KeptInputs w (with_op_if p (without_life l.name w))) w why l (inl refl) (λ id is. one_op w (without_life l.name w) (op.Lost id why) refl (λ n. tt)))

by_piece : (w : World) (x : Option Going) (bytes : List ℕ) (o : Outcome) (v : World) → Pieced w x bytes o v → KeptInputs w v
by_piece w None bytes o v given = stays w v given.1
by_piece w (Some l) bytes o v given =
    let s = step_at l (record { piece = bytes; blocks = given.0; fault = given.1 }) in
    let u = goes_on (with_piece l bytes given.0) s.ended w in
    let same = same_ops (with_piece l bytes given.0) s.ended w in
    subst (KeptInputs w) (sym given.2.2)
    (if_pieced (λ (p : Option Op). KeptInputs w (with_op_if p u)) w.room w.end s.answered s.ended (inl same)
    (λ id prompt out is. one_op w u (op.Answer id prompt out) same (λ n. tt))
    (λ x id is first none. one_op w u (op.Lost id x.reason) same (λ n. tt)))

by_eval : (w : World) (id : ℕ) (r : Option Refusal) (o : Outcome) (v : World) → Commanded w (command.Eval id) r o v → KeptInputs w v
by_eval w id (Some r) o v given = stays w v given.1
by_eval w id None o v given = ⊎_elim
    (λ yes. subst (KeptInputs w) (sym yes.1) (inr (op.Clear id, ap (λ (os : List Op). os ++ op.Clear id ∷ []) (ops_item w _ _ _), λ n. tt)))
    (λ no. stays w v no.2) given

kept_inputs : (w : World) (e : Event) (o : Outcome) (v : World) → GivesByParts w e o v → IsEvalOrChild e → KeptInputs w v
kept_inputs w (event.Command (command.Eval id)) o v given of = by_eval w id (first_of (command_refusals w (command.Eval id))) o v given
kept_inputs w (event.Command (command.Session name tab words)) o v given of = absurd of
kept_inputs w (event.Command (command.New place session input)) o v given of = absurd of
kept_inputs w (event.Command (command.Set id input)) o v given of = absurd of
kept_inputs w (event.Command (command.Remove id)) o v given of = absurd of
kept_inputs w (event.Command (command.Move id place)) o v given of = absurd of
kept_inputs w (event.Command (command.Clear id)) o v given of = absurd of
kept_inputs w (event.Command (command.Complete id cursor)) o v given of = absurd of
kept_inputs w (event.Command (command.CompleteText id cursor text)) o v given of = absurd of
kept_inputs w (event.Command (command.Stop name)) o v given of = absurd of
kept_inputs w (event.Command command.Checkpoint) o v given of = absurd of
kept_inputs w (event.Child name number child.StartRefused) o v given of = by_end w (with_number number (life_of w name)) _ _ o v given
kept_inputs w (event.Child name number (child.Piece bytes)) o v given of = by_piece w (with_number number (life_of w name)) bytes o v given
kept_inputs w (event.Child name number child.End) o v given of = by_end w (with_number number (life_of w name)) _ _ o v given
kept_inputs w (event.Child name number child.ReadFault) o v given of = by_end w (with_number number (life_of w name)) _ _ o v given
kept_inputs w (event.Child name number child.SendFault) o v given of = by_end w (with_number number (life_of w name)) _ _ o v given
kept_inputs w (event.Child name number child.Stalled) o v given of = by_end w (with_number number (life_of w name)) _ _ o v given
kept_inputs w (event.Child name number child.StopFault) o v given of = stays w v given.1

-- the last of allowed ops
last_allowed : (before os : List Op) (o : Op) → AllowedFrom before (os ++ o ∷ []) → first_refusal (sheet_of (before ++ os)) o ≡ None
last_allowed before [] o h = subst (λ (l : List Op). first_refusal (sheet_of l) o ≡ None) (sym (append-nil before)) h.0
last_allowed before (x ∷ os) o h = subst (λ (l : List Op). first_refusal (sheet_of l) o ≡ None) (append_assoc before (x ∷ []) os) (last_allowed (before ++ x ∷ []) os o h.1)

-- a field keeps its line
pub lines_stay : (f : Field) (w : World) (es : List Event) (os : List Outcome) (v : World) → Sound w → Runs w es os v → AreOfEvals es → HasItsLine w.ops f → HasItsLine v.ops f
lines_stay f w [] [] v h run all has = subst (λ (x : World). HasItsLine x.ops f) (sym run) has
lines_stay f w [] (o ∷ os) v h run all has = absurd run
lines_stay f w (e ∷ es) [] v h run all has = absurd run
lines_stay f w (e ∷ es) (o ∷ os) v h run all has =
    let mid = run.0 in
    let after = (stepped w e o mid h run.1).sound in
    let now : HasItsLine mid.ops f = ⊎_elim
    (λ same. subst (λ (l : List Op). HasItsLine l f) (sym same) has)
    (λ one. subst (λ (l : List Op). HasItsLine l f) (sym one.1) (its_line_stays w.ops one.0 f h.allowed (last_allowed [] w.ops one.0 (subst Allowed one.1 after.allowed)) (one.2 f.id) has))
    (kept_inputs w e o mid (by_parts w e o mid run.1) all.0) in
    lines_stay f mid es os v after run.2 all.1 now

-- A run that comes to its end had no fault.

module _ {A C K : Type 0} (R : Rules A C K) where
  not_halted : (p q : RunPlace A C K) (why : RunFault) (steps : List RunStep) → Run R p (item.halt why ∷ []) steps [] q → ⊥
  not_halted p q why [] r = let no : [] ≡ item.halt why ∷ [] = r.0 in cc
  not_halted p q why (s ∷ steps) (next, mid, step.breaks i entries w x rest fails, more) = absurd (elim fails [ ])

  not_at_fault : (p q : RunPlace A C K) (why : RunFault) (steps : List RunStep) → Run R p (item.print_fault why ∷ []) steps [] q → ⊥
  not_at_fault p q why [] r = let no : [] ≡ item.print_fault why ∷ [] = r.0 in cc
  not_at_fault p q why (s ∷ steps) (next, mid, step.prints_fault w whole k tries, more) = not_halted mid q why steps more
  not_at_fault p q why (s ∷ steps) (next, mid, step.breaks i entries w x rest fails, more) = absurd (elim fails [ ])

  not_broken : (p q : RunPlace A C K) (why : RunFault) (steps : List RunStep) → Run R p (after_fault why) steps [] q → ⊥
  not_broken p q run_fault.Output steps r = not_halted p q run_fault.Output steps r
  not_broken p q (run_fault.Host f) steps r = not_at_fault p q (run_fault.Host f) steps r
  not_broken p q (run_fault.Open cause) steps r = not_at_fault p q (run_fault.Open cause) steps r
  not_broken p q run_fault.InUse steps r = not_at_fault p q run_fault.InUse steps r
  not_broken p q run_fault.SecondFile steps r = not_at_fault p q run_fault.SecondFile steps r
  not_broken p q run_fault.Input steps r = not_at_fault p q run_fault.Input steps r
  not_broken p q run_fault.InputTooLong steps r = not_at_fault p q run_fault.InputTooLong steps r
  not_broken p q run_fault.OutOfMemory steps r = not_at_fault p q run_fault.OutOfMemory steps r

-- What an agenda of fields asks for.

abbrev AsksEvals : Item → Type 0
AsksEvals item.ask = Unit {0}
AsksEvals (item.watch q) = Unit {0}
AsksEvals (item.hear seat most) = Unit {0}
AsksEvals (item.take from events) = AreOfEvals events
AsksEvals (item.take_transaction first events) = ⊥
AsksEvals (item.take_edits up_to events) = ⊥
AsksEvals (item.take_alone e) = IsEvalOrChild e
AsksEvals (item.carry o) = Unit {0}
AsksEvals (item.receive seat) = Unit {0}
AsksEvals (item.join events) = AreOfEvals events
AsksEvals (item.rewrite line) = ⊥
AsksEvals item.stall = Unit {0}
AsksEvals (item.interrupt name) = Unit {0}
AsksEvals (item.print s) = Unit {0}
AsksEvals (item.heed c) = Unit {0}
AsksEvals (item.print_fault why) = Unit {0}
AsksEvals (item.halt why) = Unit {0}

abbrev AllAsk : List Item → Type 0
AllAsk items = AllByRecursion AsksEvals items

abbrev OfAction : Result Action RunFault → Type 0
OfAction (Ok t) = AllAsk (items_by t)
OfAction (Err why) = Unit {0}

by_action : (r : Result Action RunFault) (t : Action) → r ≡ Ok t → AllAsk (items_by t) → OfAction r
by_action r t is all = subst OfAction (sym is) all

by_fault : (r : Result Action RunFault) (why : RunFault) → r ≡ Err why → OfAction r
by_fault r why is = subst OfAction (sym is) tt

all_asked : (ids : List ℕ) → AreOfEvals (map asks_field ids)
all_asked [] = tt
all_asked (id ∷ ids) = (tt, all_asked ids)

of_lines : (first : ℕ) (ids : List ℕ) (t : Action) → AsksLines first (map asks_field ids) t → AllAsk (items_by t)
of_lines first ids t (taken, is, are) = subst (λ (x : Action). AllAsk (items_by x)) (sym is) (subst AreOfEvals (sym are) (all_asked ids), (tt, tt))

of_interrupt : (id : ℕ) (field : Option Field) → AllAsk (items_by (interrupts_of id field))
of_interrupt id None = (tt, (tt, (tt, tt)))
of_interrupt id (Some field) = (tt, (tt, tt))

module _ {P : Type 0} where
  of_asking : (a : ByFields P) (w : World) (k id : ℕ) (r : Result Action RunFault) (b : ByFields P) → AsksFrom a w k id r b → OfAction r
  of_asking a w k id r b (asked t lines is same) = by_action r t is (of_lines _ (asked_with a w k id) t lines)
  of_asking a w k id r b (unasked is same) = by_fault r run_fault.OutOfMemory is

  of_end : (a : ByFields P) (w : World) (stopped : Option ℕ) (r : Result Action RunFault) (b : ByFields P) → ComesToItsEnd a w stopped r b → OfAction r
  of_end a w stopped r b (ends_with counts count is same) = by_action r _ is (tt, (tt, (tt, tt)))
  of_end a w stopped r b (too_many_fields many is same) = by_fault r run_fault.InputTooLong is

  of_unheard : (a : ByFields P) (w : World) (now : ℕ) (r : Result Action RunFault) (b : ByFields P) → GoesUnheard a w now r b → OfAction r
  of_unheard a w now r b (asks k id may asking) = of_asking a w k id r b asking
  of_unheard a w now r b (ends at free here so) = of_end a w at r b so
  of_unheard a w now r b (interrupts n id held none late is same) = by_action r _ is (of_interrupt id _)
  of_unheard a w now r b (stalls_now held none late over is same) = by_action r _ is (tt, (tt, tt))
  of_unheard a w now r b (watches held none late going is same) = by_action r _ is (tt, (tt, tt))

  of_going : (a : ByFields P) (w : World) (now : ℕ) (r : Result Action RunFault) (b : ByFields P) → FieldsGoOn a w now r b → OfAction r
  of_going a w now r b (uncounted many is same) = by_fault r run_fault.InputTooLong is
  of_going a w now r b (hears seat due is same) = by_action r _ is (tt, (tt, tt))
  of_going a w now r b (goes_unheard none goes) = of_unheard (seen_due a) w now r b goes

  of_look : (finds : Finds) (a : ByFields P) (w : World) (r : Result Action RunFault) (b : ByFields P) → LooksFor finds a w r b → OfAction r
  of_look finds a w r b (looked ids how finding is same) = by_action r _ is (tt, tt)
  of_look finds a w r b (unlooked is same) = by_fault r run_fault.OutOfMemory is

  of_saying : (how : Stage) (finds : Finds) (a : ByFields P) (w : World) (now : ℕ) (r : Result Action RunFault) (b : ByFields P) → SaysAt how finds a w now r b → OfAction r
  of_saying stage.New finds a w now r b said = of_look finds a w r b said
  of_saying stage.Going finds a w now r b said = of_going a w now r b said
  of_saying (stage.Counted done_with) finds a w now r b said = by_action r _ said.0 tt
  of_saying (stage.NoField id) finds a w now r b said = by_action r _ said.0 tt
  of_saying (stage.NoProgram name) finds a w now r b said = by_action r _ said.0 tt

  of_join : (a : ByFields P) (w : World) (first : Option ℕ) (more : List Event) (b : ByFields P) → FieldsJoin a w first more b → AreOfEvals more
  of_join a w first more b (none_join nothing is same) = subst AreOfEvals (sym is) tt
  of_join a w first more b (some_join held k id life none going from) = subst AreOfEvals (sym from.asked) (all_asked (asked_with (waits_on a held) w k id))

-- What comes from lives.

all_stalled : (seats : List Seat) → AreOfEvals (map stalls seats)
all_stalled [] = tt
all_stalled (seat ∷ seats) = (tt, all_stalled seats)

one_heard : {C : Type 0} (R : Relation C) (seat : Seat) (c : C) (e : Event) (d : C) → HearsOne R seat c e d → IsEvalOrChild e
one_heard R seat c e d (said, heard, is) = subst IsEvalOrChild (sym is) tt

heard_after : {C : Type 0} (R : SourceRules C) (c : C) (events : List Event) (d : C) → HeardAfter R c events d → AreOfEvals events
heard_after R c events d no_other = tt
heard_after R c events d (one_more all before e mid last earlier next is) =
    subst AreOfEvals (sym is) (all_joined before (e ∷ []) (heard_after R c before mid earlier) (one_heard R.after next.seat next.mid e d next.hears, tt))

all_heard : {C : Type 0} (R : SourceRules C) (seat : Seat) (most : ℕ) (c : C) (events : List Event) (d : C) → HeardReady R seat most c events d → AreOfEvals events
all_heard R seat most c events d (last, heard, again) =
    subst AreOfEvals (sym heard.are) (one_heard R.after seat c heard.first heard.mid heard.hears, heard_after R heard.mid heard.later last heard.others)

-- an event that is due, if one is, comes from a life
abbrev IsDue : Option Event → Type 0
IsDue None = Unit {0}
IsDue (Some e) = IsEvalOrChild e

fault_due : (f : Effect) → IsDue (due_of (Some f) (Some fault))
fault_due (effect.Start name life words) = tt
fault_due (effect.Send name life bytes) = tt
fault_due (effect.Kill name life) = tt

all_due : (f : Option Effect) (a : Option Answer) → IsDue (due_of f a)
all_due None a = tt
all_due (Some f) None = tt
all_due (Some f) (Some done) = tt
all_due (Some f) (Some fault) = fault_due f
all_due (Some f) (Some (piece bytes)) = tt
all_due (Some f) (Some end) = tt
all_due (Some f) (Some no_memory) = tt

due_asks : (e : Option Event) → IsDue e → AllAsk (taking_due e)
due_asks None h = tt
due_asks (Some e) h = (h, tt)

follows : {C : Type 0} (R : Relation C) (s : At C) (due : Option Event) (bs : List Entry) (left : Option Event) (t : At C) → IsDue due → Follows R s due bs left t → AreOfEvals (events_of bs)
follows R s due [] left t h f = tt
follows R s None (b ∷ bs) left t h f = absurd f
follows R s (Some e) (b ∷ bs) left t h f = (subst IsEvalOrChild (sym f.1.event) h, follows R f.0 (due_after b) bs left t (all_due b.outcome.effect b.answer) f.2)

after-joined : (fs gs : List Followed) → entries_after (fs ++ gs) ≡ entries_after fs ++ entries_after gs
after-joined [] gs = refl
after-joined (f ∷ fs) gs = ap (λ (l : List Entry). f.entries ++ l) (after-joined fs gs) ∙ sym (append_assoc f.entries (entries_after fs) (entries_after gs))

carried : {C : Type 0} (R : Relation C) (outcomes : List Outcome) (k : ℕ) (s : At C) (fs : List Followed) (t : At C) → FirstOf (CarriesOut R None) outcomes k s fs t → AreOfEvals (events_of (entries_after fs))
carried R outcomes zero s fs t h = subst (λ (l : List Followed). AreOfEvals (events_of (entries_after l))) (sym h.0) tt
carried R outcomes (suc k) s fs t (o, mid, before, last, at_k, earlier, (f, d, is, went, after), all) =
    subst (λ (l : List Followed). AreOfEvals (events_of (entries_after l))) (sym all)
    (subst (λ (l : List Entry). AreOfEvals (events_of l)) (sym (after-joined before last))
    (entries_joined (entries_after before) (entries_after last) (carried R outcomes k s before mid earlier)
    (subst (λ (l : List Followed). AreOfEvals (events_of (entries_after l))) (sym is)
    (subst (λ (l : List Entry). AreOfEvals (events_of l)) (sym (append-nil f.entries)) (follows R _ _ f.entries None t (all_due o.effect f.answer) after)))))

group-events : (w : World) (es : List Event) (os : List Outcome) (v : World) (fs : List Followed) → Runs w es os v → events_of (group_entries es os fs) ≡ es
group-events w [] [] v fs runs = refl
group-events w [] (o ∷ os) v fs runs = absurd runs
group-events w (e ∷ es) [] v fs runs = absurd runs
group-events w (e ∷ es) (o ∷ os) v [] runs = ap (λ (l : List Event). e ∷ l) (group-events runs.0 es os v [] runs.2)
group-events w (e ∷ es) (o ∷ os) v (f ∷ fs) runs = ap (λ (l : List Event). e ∷ l) (group-events runs.0 es os v fs runs.2)

took_all : (w : World) (es : List Event) (os : List Outcome) (v : World) (fs : List Followed) → Runs w es os v → AreOfEvals es → AreOfEvals (events_of (entries_after fs)) → AreOfEvals (events_of (trace_of es os fs))
took_all w es os v fs runs all after = entries_joined (group_entries es os fs) (entries_after fs) (subst AreOfEvals (sym (group-events w es os v fs runs)) all) after

-- Steps.

items_joined : (is more : List Item) → AllAsk is → AllAsk more → AllAsk (is ++ more)
items_joined [] more h k = k
items_joined (i ∷ is) more h k = (h.0, items_joined is more h.1 k)

joined_ask : (first : Option ℕ) (later : List Outcome) (rest : List Item) → AllAsk rest → AllAsk (item.joined_lines first later rest)
joined_ask None later rest all = all
joined_ask (Some first) later rest all = (tt, all)

notes_ask : (n : Option Note) → AllAsk (notes n)
notes_ask None = tt
notes_ask (Some n) = (tt, tt)

-- a step broke off, or what it took is of evaluations, and so is what is then asked for
abbrev OfStep : RunStep → List Item → Type 0
OfStep s next = ((why : RunFault) × (next ≡ after_fault why)) ⊎ (AreOfEvals (events_of (entries_of s)) × AllAsk next)

module _ {P C K : Type 0} (finds : P → Finds) (sources : SourceRules C) (sink : SinkRules K) where
  abbrev Spot : Type 0
  Spot = RunPlace (ByFields P) C K

  abbrev R : Rules (ByFields P) C K
  R = rules (fields_rules finds) sources sink

  of_step : (p q : Spot) (todo next : List Item) (s : RunStep) → Goes R p todo s next q → AllAsk todo → OfStep s next
  of_step p q todo next s (step.asks now t a clock said) all = inr (tt, of_saying p.agenda.stage _ p.agenda p.world now (Ok t) a said)
  of_step p q todo next s (step.watches x w c a rest wakes woken) all = inr (tt, all.1)
  of_step p q todo next s (step.hears seat most events c rest heard) all = inr (tt, (all_heard sources seat most p.sources events c heard, all.1))
  of_step p q todo next s (step.takes from events outcomes followed w c d rest t) all =
      inr (took_all p.world events outcomes t.middle followed t.kept.runs all.0 (carried sources.after outcomes (length outcomes) (at t.middle p.sources t.disk) followed (at w c d) t.carried), (tt, (tt, (tt, all.1))))
  of_step p q todo next s (step.joins events outcomes first more later followed a w c d rest j t) all =
      inr (
        took_all p.world (events ++ more) (outcomes ++ later) t.middle followed t.kept.runs (all_joined events more all.0 (of_join p.agenda j.world first more a j.answered)) (carried sources.after (outcomes ++ later) (length (outcomes ++ later)) (at t.middle p.sources t.disk) followed (at w c d) t.carried),
        (tt, joined_ask first later _ (tt, (tt, all.1))),
      )
  of_step p q todo next s (step.takes_whole first events outcomes w d rest t) all = absurd all.0
  of_step p q todo next s (step.refuses_whole first events before last rest refused) all = absurd all.0
  of_step p q todo next s (step.takes_edits up_to events first outcomes w d rest upto t) all = absurd all.0
  of_step p q todo next s (step.takes_alone e x w d rest g kept) all = inr ((all.0, tt), (tt, all.1))
  of_step p q todo next s (step.carries x answer c rest went) all =
      inr (tt, (tt, (tt, (tt, items_joined (taking_due (due_of x.effect answer)) rest (due_asks (due_of x.effect answer) (all_due x.effect answer)) all.1))))
  of_step p q todo next s (step.receives seat e c rest heard) all = inr (tt, (one_heard sources.after seat p.sources e c heard, all.1))
  of_step p q todo next s (step.rewrites line x w d rest g kept) all = absurd all.0
  of_step p q todo next s (step.stalls_all rest) all = inr (tt, (all_stalled _, all.1))
  of_step p q todo next s (step.interrupts name result c rest called) all = inr (tt, (tt, all.1))
  of_step p q todo next s (step.prints r k rest tries) all = inr (tt, all.1)
  of_step p q todo next s (step.heeds c now n a rest clock heeded) all = inr (tt, items_joined (notes n) rest (notes_ask n) all.1)
  of_step p q todo next s (step.breaks i entries why x rest fails) all = inl (why, refl)
  of_step p q todo next s (step.prints_fault why whole k tries) all = inr (tt, (tt, tt))

  of_run : (p q : Spot) (todo : List Item) (steps : List RunStep) → Run R p todo steps [] q → AllAsk todo → AreOfEvals (events_of (trace steps))
  of_run p q todo [] r all = tt
  of_run p q todo (s ∷ steps) (next, mid, goes, more) all = ⊎_elim
      (λ broke. absurd (not_broken R mid q broke.0 steps (subst (λ (t : List Item). Run R mid t steps [] q) broke.1 more)))
      (λ on. entries_joined (entries_of s) (trace steps) on.0 (of_run mid q next steps more on.1))
      (of_step p mid todo next s goes all)

  -- a run of fields, to its end
  pub of_fields : (p q : Spot) (steps : List RunStep) → Run R p (item.ask ∷ []) steps [] q → AreOfEvals (events_of (trace steps))
  of_fields p q steps r = of_run p q (item.ask ∷ []) steps r (tt, tt)

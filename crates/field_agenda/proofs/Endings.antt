-- A run of fields that has nothing left to be done came to its end.
use Rattle.std.proofs.Common.{◌≡◌, ◌∙◌, inl, inr, ℕ, ◌+◌, List, [], ◌∷◌, ◌++◌, length, refl, sym, subst, Ok, Err}
use Rattle.std.specs.Prelude.{◌⊎◌, Option, None, Some, Result, map}
use Rattle.host_events.specs.declared.outcome.Outcome.{Outcome}
use Rattle.host_events.specs.declared.reply.Reply.{Reply}
use Rattle.session_engine.specs.World.{World}
use Rattle.offline_programs.specs.declared.fault.RunFault.{RunFault}
use Rattle.offline_programs.specs.declared.fault.RunFault.TheVariants as fault
use Rattle.tellings.specs.declared.note.Note.{Note}
use Rattle.driver.specs.declared.report.Show.TheVariants as show
use Rattle.driver.specs.declared.action.Action.{Action}
use Rattle.driver.specs.declared.action.Action.TheVariants as action
use Rattle.driver.specs.Items.{Item, RunStep, after_fault, ask, group_of, items_by, notes, print, printing_joined, taking_due}
use Rattle.host_events.specs.declared.event.Event.{Event}
use Rattle.child_edge.specs.Faithful.{due_of}
use Rattle.driver.specs.Items.{stalls as stalls_now}
use Rattle.driver.specs.Items as item
use Rattle.driver.specs.Reports.{Report, TurnCame, came, interrupt_came, lines, lives, shown}
use Rattle.driver.specs.Reports.{followed as followed_of}
use Rattle.child_edge.specs.Seats.{waits}
use Rattle.child_edge.specs.Together.{entries_after}
use Rattle.child_edge.specs.Reported.{reported}
use Rattle.driver.specs.Place.{RunPlace, SinkRules, SourceRules, rules}
use Rattle.driver.specs.Steps.{Goes, Run}
use Rattle.driver.specs.Steps as step
use Rattle.evaluation.specs.Programs.{Finds}
use Rattle.field_agenda.specs.declared.by_fields.ByFields.{ByFields}
use Rattle.field_agenda.specs.declared.stage.Stage.{Stage}
use Rattle.field_agenda.specs.declared.stage.Stage.TheVariants as stage
use Rattle.field_agenda.specs.FieldsRules.{fields_rules}
use Rattle.field_agenda.specs.Looks.{LooksFor, looked, unlooked}
use Rattle.field_agenda.specs.Says.{AsksFrom, ComesToItsEnd, FieldsSay, FieldsGoOn, GoesUnheard, SaysAt, asked, asks, ends, ends_with, goes_unheard, hears, interrupts, interrupts_of, stalls, too_many_fields, unasked, uncounted, watches}
use Rattle.field_agenda.specs.Stages.{IsEnded}
use Rattle.field_agenda.specs.Standing.{seen_due}
use Rattle.worksheet.specs.declared.field.Field.{Field}

-- the agenda is asked, or this is the end by a fault
abbrev IsLastItem : Item → Type 0
IsLastItem item.ask = Unit {0}
IsLastItem (item.watch q) = ⊥
IsLastItem (item.hear seat most) = ⊥
IsLastItem (item.take from events) = ⊥
IsLastItem (item.take_transaction first events) = ⊥
IsLastItem (item.take_edits up_to events) = ⊥
IsLastItem (item.take_alone e) = ⊥
IsLastItem (item.carry o) = ⊥
IsLastItem (item.receive seat) = ⊥
IsLastItem (item.join events) = ⊥
IsLastItem (item.rewrite line) = ⊥
IsLastItem item.stall = ⊥
IsLastItem (item.interrupt name) = ⊥
IsLastItem (item.print s) = ⊥
IsLastItem (item.heed c) = ⊥
IsLastItem (item.print_fault why) = Unit {0}
IsLastItem (item.halt why) = Unit {0}

-- what is to be done ends so
abbrev AsksLast : List Item → Type 0
AsksLast [] = ⊥
AsksLast (i ∷ []) = IsLastItem i
AsksLast (i ∷ j ∷ rest) = AsksLast (j ∷ rest)

-- so it is, or nothing is left and it came to its end
abbrev Open : List Item → Stage → Type 0
Open todo how = AsksLast todo ⊎ ((todo ≡ []) × IsEnded how)

following : (i : Item) (rest : List Item) → (IsLastItem i → ⊥) → AsksLast (i ∷ rest) → AsksLast rest
following i [] other last = other last
following i (j ∷ rest) other last = last

before : (i : Item) (rest : List Item) → AsksLast rest → AsksLast (i ∷ rest)
before i [] last = absurd last
before i (j ∷ rest) last = last

due_before : (due : Option Event) (rest : List Item) → AsksLast rest → AsksLast (taking_due due ++ rest)
due_before None rest last = last
due_before (Some e) rest last = before (item.take_alone e) rest last

-- what is printed of a group, and then heeded
thrice : (s t : Report) (c : TurnCame) (rest : List Item) → AsksLast rest → AsksLast (item.print s ∷ item.print t ∷ item.heed c ∷ rest)
thrice s t c rest last = before (item.print s) (item.print t ∷ item.heed c ∷ rest) (before (item.print t) (item.heed c ∷ rest) (before (item.heed c) rest last))

-- what is printed of lives and of what joined them, and then heeded
joined : (first : Option ℕ) (outcomes later : List Outcome) (replies : List Reply) (rest : List Item) → AsksLast rest → AsksLast (printing_joined first outcomes later replies rest)
joined None outcomes later replies rest last = thrice (lives outcomes) (followed_of replies) (came (outcomes ++ later) replies) rest last
joined (Some first) outcomes later replies rest last =
    before (item.print (lives outcomes)) (item.print (lines first later) ∷ item.print (followed_of replies) ∷ item.heed (came (outcomes ++ later) replies) ∷ rest)
    (thrice (lines first later) (followed_of replies) (came (outcomes ++ later) replies) rest last)

noted : (n : Option Note) (rest : List Item) → AsksLast rest → AsksLast (notes n ++ rest)
noted None rest last = last
noted (Some n) rest last = before (print (shown (show.Note n))) rest last

fault_last : (why : RunFault) → AsksLast (after_fault why)
fault_last fault.Input = tt
fault_last fault.InputTooLong = tt
fault_last fault.Output = tt
fault_last fault.OutOfMemory = tt
fault_last (fault.Host f) = tt
fault_last (fault.Open f) = tt
fault_last fault.InUse = tt
fault_last fault.SecondFile = tt

-- what was said is the end only where it came to its end

not_action : (r : Result Action RunFault) (t : Action) → r ≡ Ok action.End → r ≡ Ok t → t ≡ action.End
not_action r t end is = let same : Ok t ≡ Ok action.End = sym is ∙ end in cc

not_fault : (r : Result Action RunFault) (why : RunFault) → r ≡ Ok action.End → r ≡ Err why → ⊥
not_fault r why end is = let same : Ok action.End ≡ Err why = sym end ∙ is in absurd cc

not_interrupt : (id : ℕ) (f : Option Field) → interrupts_of id f ≡ action.End → ⊥
not_interrupt id None is = absurd cc
not_interrupt id (Some field) is = absurd cc

module _ {P : Type 0} where
  end_of_look : (finds : Finds) (a : ByFields P) (w : World) (r : Result Action RunFault) (b : ByFields P) → r ≡ Ok action.End → LooksFor finds a w r b → ⊥
  end_of_look finds a w r b end (looked ids how finding is same) = let wrong = not_action r action.Nothing end is in absurd cc
  end_of_look finds a w r b end (unlooked is same) = not_fault r _ end is

  end_of_asking : (a : ByFields P) (w : World) (k id : ℕ) (r : Result Action RunFault) (b : ByFields P) → r ≡ Ok action.End → AsksFrom a w k id r b → ⊥
  end_of_asking a w k id r b end (asked t (taken, these, same_events) is same) =
      let wrong : action.Lines (k + 1) taken ≡ action.End = sym these ∙ not_action r t end is in absurd cc
  end_of_asking a w k id r b end (unasked is same) = not_fault r _ end is

  end_of_end : (a : ByFields P) (w : World) (stopped : Option ℕ) (r : Result Action RunFault) (b : ByFields P) → r ≡ Ok action.End → ComesToItsEnd a w stopped r b → ⊥
  end_of_end a w stopped r b end (ends_with counts count is same) = let wrong = not_action r _ end is in absurd cc
  end_of_end a w stopped r b end (too_many_fields many is same) = not_fault r _ end is

  end_of_unheard : (a : ByFields P) (w : World) (now : ℕ) (r : Result Action RunFault) (b : ByFields P) → r ≡ Ok action.End → GoesUnheard a w now r b → ⊥
  end_of_unheard a w now r b end (asks k id may asking) = end_of_asking a w k id r b end asking
  end_of_unheard a w now r b end (ends at free here so) = end_of_end a w at r b end so
  end_of_unheard a w now r b end (interrupts n id held none late is same) = not_interrupt id _ (not_action r _ end is)
  end_of_unheard a w now r b end (stalls held none late over is same) = let wrong = not_action r action.Stall end is in absurd cc
  end_of_unheard a w now r b end (watches held none late going is same) = let wrong = not_action r _ end is in absurd cc

  end_of_going : (a : ByFields P) (w : World) (now : ℕ) (r : Result Action RunFault) (b : ByFields P) → r ≡ Ok action.End → FieldsGoOn a w now r b → ⊥
  end_of_going a w now r b end (uncounted many is same) = not_fault r _ end is
  end_of_going a w now r b end (hears seat due is same) = let wrong = not_action r _ end is in absurd cc
  end_of_going a w now r b end (goes_unheard none goes) = end_of_unheard (seen_due a) w now r b end goes

  ended_there : (how : Stage) (a b : ByFields P) → how ≡ a.stage → IsEnded how → b ≡ a → IsEnded b.stage
  ended_there how a b is ended same = subst (λ (x : ByFields P). IsEnded x.stage) (sym same) (subst IsEnded is ended)

  said_end : (how : Stage) (finds : Finds) (a : ByFields P) (w : World) (now : ℕ) (b : ByFields P) → how ≡ a.stage → SaysAt how finds a w now (Ok action.End) b → IsEnded b.stage
  said_end stage.New finds a w now b is said = absurd (end_of_look finds a w (Ok action.End) b refl said)
  said_end stage.Going finds a w now b is said = absurd (end_of_going a w now (Ok action.End) b refl said)
  said_end (stage.Counted end) finds a w now b is said = ended_there (stage.Counted end) a b is tt said.1
  said_end (stage.NoField id) finds a w now b is said = ended_there (stage.NoField id) a b is tt said.1
  said_end (stage.NoProgram name) finds a w now b is said = ended_there (stage.NoProgram name) a b is tt said.1

  open_by : (finds : P → Finds) (a : ByFields P) (w : World) (now : ℕ) (t : Action) (b : ByFields P) → FieldsSay finds a w now (Ok t) b → Open (items_by t) b.stage
  open_by finds a w now action.End b said = inr (refl, said_end a.stage (finds a.programs) a w now b refl said)
  open_by finds a w now action.Nothing b said = inl tt
  open_by finds a w now (action.Watch input patience) b said = inl tt
  open_by finds a w now (action.Hear seat most) b said = inl tt
  open_by finds a w now (action.Lines first events) b said = inl tt
  open_by finds a w now (action.Transaction first events) b said = inl tt
  open_by finds a w now (action.Edits up_to events) b said = inl tt
  open_by finds a w now (action.Alone e) b said = inl tt
  open_by finds a w now (action.Receive seat) b said = inl tt
  open_by finds a w now (action.Checkpoint line) b said = inl tt
  open_by finds a w now action.Stall b said = inl tt
  open_by finds a w now (action.Interrupt name) b said = inl tt
  open_by finds a w now (action.Show s) b said = inl tt

module _ {P C K : Type 0} (finds : P → Finds) (sources : SourceRules C) (sink : SinkRules K) where
  stays_open : (p q : RunPlace (ByFields P) C K) (todo next : List Item) (s : RunStep) → AsksLast todo → Goes (rules (fields_rules finds) sources sink) p todo s next q → Open next q.agenda.stage
  stays_open p q todo next s last (step.asks now t a clock said) = open_by finds p.agenda p.world now t a said
  stays_open p q todo next s last (step.watches x w c a rest wakes turned) = inl (following (item.watch x) rest (λ no. no) last)
  stays_open p q todo next s last (step.hears seat most events c rest h) = inl (before (item.join events) rest (following (item.hear seat most) rest (λ no. no) last))
  stays_open p q todo next s last (step.takes from events outcomes followed w c d rest t) =
      inl (thrice (group_of from outcomes) (followed_of (reported (entries_after followed))) (came outcomes (reported (entries_after followed))) rest
      (following (item.take from events) rest (λ no. no) last))
  stays_open p q todo next s last (step.joins events outcomes first more later followed a w c d rest j t) =
      inl (joined first outcomes later (reported (entries_after followed)) rest (following (item.join events) rest (λ no. no) last))
  stays_open p q todo next s last (step.takes_whole first events outcomes w d rest t) =
      inl (thrice (group_of (Some first) outcomes) (followed_of []) (came outcomes []) rest (following (item.take_transaction first events) rest (λ no. no) last))
  stays_open p q todo next s last (step.refuses_whole first events outcomes one rest r) =
      inl (thrice (group_of (Some (first + length outcomes)) (one ∷ [])) (followed_of []) (came (one ∷ []) []) rest (following (item.take_transaction first events) rest (λ no. no) last))
  stays_open p q todo next s last (step.takes_edits up_to events done outcomes w d rest first t) =
      inl (thrice (group_of None outcomes) (followed_of []) (came outcomes []) rest (following (item.take_edits up_to events) rest (λ no. no) last))
  stays_open p q todo next s last (step.takes_alone x o w d rest gives kept) = inl (before (item.carry o) rest (following (item.take_alone x) rest (λ no. no) last))
  stays_open p q todo next s last (step.carries o answer c rest went) =
      inl (thrice (group_of None (o ∷ [])) (followed_of []) (came (o ∷ []) []) (taking_due (due_of o.effect answer) ++ rest)
      (due_before (due_of o.effect answer) rest (following (item.carry o) rest (λ no. no) last)))
  stays_open p q todo next s last (step.receives seat x c rest was) = inl (before (item.take_alone x) rest (following (item.receive seat) rest (λ no. no) last))
  stays_open p q todo next s last (step.rewrites line o w d rest gives kept) =
      inl (thrice (group_of (Some line) (o ∷ [])) (followed_of []) (came (o ∷ []) []) rest (following (item.rewrite line) rest (λ no. no) last))
  stays_open p q todo next s last (step.stalls_all rest) = inl (before (item.take None (map stalls_now (waits p.world))) rest (following item.stall rest (λ no. no) last))
  stays_open p q todo next s last (step.interrupts name came_so c rest i) = inl (before (item.heed (interrupt_came came_so)) rest (following (item.interrupt name) rest (λ no. no) last))
  stays_open p q todo next s last (step.prints t k rest went) = inl (following (item.print t) rest (λ no. no) last)
  stays_open p q todo next s last (step.heeds c now n a rest clock h) = inl (noted n rest (following (item.heed c) rest (λ no. no) last))
  stays_open p q todo next s last (step.breaks i entries why there rest fails) = inl (fault_last why)
  stays_open p q todo next s last (step.prints_fault why whole k went) = inl tt

  pub none_to_do : (p q : RunPlace (ByFields P) C K) (next : List Item) (s : RunStep) → Goes (rules (fields_rules finds) sources sink) p [] s next q → ⊥
  none_to_do p q next s goes = elim goes [ ]

  at_nothing : (p q : RunPlace (ByFields P) C K) (steps : List RunStep) → IsEnded p.agenda.stage → Run (rules (fields_rules finds) sources sink) p [] steps [] q → IsEnded q.agenda.stage
  at_nothing p q [] ended (is, same) = subst (λ (x : RunPlace (ByFields P) C K). IsEnded x.agenda.stage) (sym same) ended
  at_nothing p q (s ∷ steps) ended (next, mid, goes, more) = absurd (none_to_do p mid next s goes)

  comes_open : (p q : RunPlace (ByFields P) C K) (todo : List Item) (steps : List RunStep) → Open todo p.agenda.stage → Run (rules (fields_rules finds) sources sink) p todo steps [] q → IsEnded q.agenda.stage
  comes_open p q todo steps (inr (none, ended)) ran =
      at_nothing p q steps ended (subst (λ (t : List Item). Run (rules (fields_rules finds) sources sink) p t steps [] q) none ran)
  comes_open p q todo [] (inl last) (is, same) = absurd (subst AsksLast (sym is) last)
  comes_open p q todo (s ∷ steps) (inl last) (next, mid, goes, more) = comes_open mid q next steps (stays_open p mid todo next s last goes) more

  pub comes_to_an_end : (p q : RunPlace (ByFields P) C K) (steps : List RunStep) → Run (rules (fields_rules finds) sources sink) p (ask ∷ []) steps [] q → IsEnded q.agenda.stage
  comes_to_an_end p q steps ran = comes_open p q (ask ∷ []) steps (inl tt) ran

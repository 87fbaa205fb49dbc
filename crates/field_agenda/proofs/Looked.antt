-- Fields and programs are looked for before anything is done.
use Rattle.std.proofs.Common.{◌≡◌, ◌∙◌, inl, inr, ℕ, ◌+◌, List, [], ◌∷◌, ◌++◌, ap, refl, sym, subst, Ok, Err}
use Rattle.std.specs.Prelude.{◌⊎◌, Option, Result}
use Rattle.host_events.specs.declared.event.Event.{Event}
use Rattle.session_engine.specs.World.{World, sheet_in}
use Rattle.session_engine.specs.Joining.{ToBeTaken, alone, asking, with_more}
use Rattle.child_edge.specs.Faithful.{Entry}
use Rattle.offline_programs.specs.declared.fault.RunFault.{RunFault}
use Rattle.offline_programs.specs.declared.fault.RunFault.TheVariants as fault
use Rattle.driver.specs.declared.action.Action.{Action}
use Rattle.driver.specs.declared.action.Action.TheVariants as action
use Rattle.driver.specs.Items.{Item, RunStep, after_fault, ask, entries_of, broke, chose, halt, items_by, print_fault}
use Rattle.driver.specs.Laws.{trace}
use Rattle.driver.specs.Place.{RunPlace, Rules, SinkRules, SourceRules, rules}
use Rattle.driver.specs.Steps.{Fails, Goes, Run}
use Rattle.driver.specs.Steps as step
use Rattle.driver.proofs.Order.{after_halt, after_is}
use Rattle.evaluation.specs.Programs.{Finds}
use Rattle.field_agenda.specs.declared.by_fields.ByFields.{ByFields}
use Rattle.field_agenda.specs.declared.stage.Stage.{Stage}
use Rattle.field_agenda.specs.declared.stage.Stage.TheVariants as stage
use Rattle.field_agenda.specs.FieldsRules.{fields_rules}
use Rattle.field_agenda.specs.Joins.{FieldsJoin, none_join, some_join}
use Rattle.field_agenda.specs.Looks.{LookFinds, LooksFor, all_there, looked, no_field, no_program, unlooked}
use Rattle.field_agenda.specs.LooksFirst.{DidNothing, IsUnderWay, LookedFirst, all_found, in_vain, not_looked}
use Rattle.field_agenda.specs.Says.{AsksFrom, ComesToItsEnd, FieldsGoOn, GoesUnheard, SaysAt, asked, asks, ends, ends_with, goes_unheard, hears, interrupts, stalls, too_many_fields, unasked, uncounted, watches}
use Rattle.field_agenda.specs.Standing.{found, seen_due}
use Rattle.field_agenda.proofs.Endings.{none_to_do}

-- While fields are asked that stays so.
module _ {P : Type 0} where
  moved : (b c : ByFields P) → b ≡ c → IsUnderWay c.stage → IsUnderWay b.stage
  moved b c is under = subst (λ (x : ByFields P). IsUnderWay x.stage) (sym is) under

  asking_on : (a : ByFields P) (w : World) (k id : ℕ) (r : Result Action RunFault) (b : ByFields P) → IsUnderWay a.stage → AsksFrom a w k id r b → IsUnderWay b.stage
  asking_on a w k id r b under (asked t lines is same) = moved b _ same under
  asking_on a w k id r b under (unasked is same) = moved b a same under

  end_on : (a : ByFields P) (w : World) (stopped : Option ℕ) (r : Result Action RunFault) (b : ByFields P) → IsUnderWay a.stage → ComesToItsEnd a w stopped r b → IsUnderWay b.stage
  end_on a w stopped r b under (ends_with counts count is same) = moved b _ same tt
  end_on a w stopped r b under (too_many_fields many is same) = moved b a same under

  unheard_on : (a : ByFields P) (w : World) (now : ℕ) (r : Result Action RunFault) (b : ByFields P) → IsUnderWay a.stage → GoesUnheard a w now r b → IsUnderWay b.stage
  unheard_on a w now r b under (asks k id may asking) = asking_on a w k id r b under asking
  unheard_on a w now r b under (ends at free here so) = end_on a w at r b under so
  unheard_on a w now r b under (interrupts n id held none late is same) = moved b _ same under
  unheard_on a w now r b under (stalls held none late over is same) = moved b _ same under
  unheard_on a w now r b under (watches held none late going is same) = moved b a same under

  going_on : (a : ByFields P) (w : World) (now : ℕ) (r : Result Action RunFault) (b : ByFields P) → IsUnderWay a.stage → FieldsGoOn a w now r b → IsUnderWay b.stage
  going_on a w now r b under (uncounted many is same) = moved b a same under
  going_on a w now r b under (hears seat due is same) = moved b _ same under
  going_on a w now r b under (goes_unheard none goes) = unheard_on (seen_due a) w now r b under goes

  says_on : (how : Stage) (finds : Finds) (a : ByFields P) (w : World) (now : ℕ) (r : Result Action RunFault) (b : ByFields P) → how ≡ a.stage → IsUnderWay a.stage → SaysAt how finds a w now r b → IsUnderWay b.stage
  says_on stage.New finds a w now r b is under said = absurd (subst IsUnderWay (sym is) under)
  says_on stage.Going finds a w now r b is under said = going_on a w now r b under said
  says_on (stage.Counted end) finds a w now r b is under said = moved b a said.1 under
  says_on (stage.NoField id) finds a w now r b is under said = absurd (subst IsUnderWay (sym is) under)
  says_on (stage.NoProgram name) finds a w now r b is under said = absurd (subst IsUnderWay (sym is) under)

  joins_on : (a : ByFields P) (w : World) (first : Option ℕ) (more : List Event) (b : ByFields P) → IsUnderWay a.stage → FieldsJoin a w first more b → IsUnderWay b.stage
  joins_on a w first more b under (none_join no_first none same) = moved b a same under
  joins_on a w first more b under (some_join held k id life due wait j) = moved b _ j.stands under

  all_on : (a b : ByFields P) (w : World) (events all : List Event) → IsUnderWay a.stage → ToBeTaken (asking FieldsJoin a b) w events all → IsUnderWay b.stage
  all_on a b w events all under (alone same) = moved b a same under
  all_on a b w events all under (with_more reported first more j) = joins_on a j.world first more b under j.answered

module _ {P C K : Type 0} (finds : P → Finds) (sources : SourceRules C) (sink : SinkRules K) where
  abbrev Place : Type 0
  Place = RunPlace (ByFields P) C K

  abbrev given : Rules (ByFields P) C K
  given = rules (fields_rules finds) sources sink

  fails_on : (p q : Place) (i : Item) (entries : List Entry) (why : RunFault) → IsUnderWay p.agenda.stage → Fails given p i entries why q → IsUnderWay q.agenda.stage
  fails_on p q i entries why under (step.unsaid now w a clock said) = says_on p.agenda.stage (finds p.agenda.programs) p.agenda p.world now (Err w) a refl under said
  fails_on p q i entries why under (step.uncounted many) = under
  fails_on p q i entries why under (step.unwatched x c wakes) = under
  fails_on p q i entries why under (step.unheard seat most) = under
  fails_on p q i entries why under (step.too_many from events many) = under
  fails_on p q i entries why under (step.untaken from events) = under
  fails_on p q i entries why under (step.lost from events h l) = under
  fails_on p q i entries why under (step.broken from events bs e x w c d h t failed) = under
  fails_on p q i entries why under (step.too_many_heard events many) = under
  fails_on p q i entries why under (step.unjoined events) = under
  fails_on p q i entries why under (step.lost_joined events all a h all_are l) = all_on p.agenda a p.world events all under all_are
  fails_on p q i entries why under (step.broken_joined events all a bs e x w c d h all_are t failed) = all_on p.agenda a p.world events all under all_are
  fails_on p q i entries why under (step.too_many_whole first events many) = under
  fails_on p q i entries why under (step.untaken_whole first events) = under
  fails_on p q i entries why under (step.lost_whole first events h l) = under
  fails_on p q i entries why under (step.untaken_edits up_to events) = under
  fails_on p q i entries why under (step.lost_edits up_to events h l) = under
  fails_on p q i entries why under (step.broken_alone x f h gone) = under
  fails_on p q i entries why under (step.unreceived seat) = under
  fails_on p q i entries why under (step.unwritten line x h failed) = under
  fails_on p q i entries why under (step.unnumbered line many) = under
  fails_on p q i entries why under step.unstalled = under
  fails_on p q i entries why under (step.uncounted_line first outcomes many) = under
  fails_on p q i entries why under (step.unprinted s w k is t) = under

  step_on : (p q : Place) (todo next : List Item) (s : RunStep) → IsUnderWay p.agenda.stage → Goes given p todo s next q → IsUnderWay q.agenda.stage
  step_on p q todo next s under (step.asks now t a clock said) = says_on p.agenda.stage (finds p.agenda.programs) p.agenda p.world now (Ok t) a refl under said
  step_on p q todo next s under (step.watches x w c a rest wakes reported) = moved a _ reported under
  step_on p q todo next s under (step.hears seat most events c rest h) = under
  step_on p q todo next s under (step.takes from events outcomes followed w c d rest t) = under
  step_on p q todo next s under (step.joins events outcomes first more later followed a w c d rest j t) = joins_on p.agenda j.world first more a under j.answered
  step_on p q todo next s under (step.takes_whole first events outcomes w d rest t) = under
  step_on p q todo next s under (step.refuses_whole first events outcomes one rest r) = under
  step_on p q todo next s under (step.takes_edits up_to events done outcomes w d rest first t) = under
  step_on p q todo next s under (step.takes_alone x o w d rest gives kept) = under
  step_on p q todo next s under (step.carries o answer c rest went) = under
  step_on p q todo next s under (step.receives seat x c rest was) = under
  step_on p q todo next s under (step.rewrites line o w d rest gives kept) = under
  step_on p q todo next s under (step.stalls_all rest) = under
  step_on p q todo next s under (step.interrupts name reported c rest i) = under
  step_on p q todo next s under (step.prints t k rest went) = under
  step_on p q todo next s under (step.heeds c now n a rest clock (held, wait, noted, same)) = moved a _ same under
  step_on p q todo next s under (step.breaks i entries why there rest fails) = fails_on p there i entries why under fails
  step_on p q todo next s under (step.prints_fault why out k went) = under

  run_on : (p q : Place) (todo left : List Item) (steps : List RunStep) → IsUnderWay p.agenda.stage → Run given p todo steps left q → IsUnderWay q.agenda.stage
  run_on p q todo left [] under ran = subst (λ (x : Place). IsUnderWay x.agenda.stage) (sym ran.1) under
  run_on p q todo left (s ∷ steps) under (next, mid, goes, more) = run_on mid q next left steps (step_on p mid todo next s under goes) more

  -- Nothing was done, and how far it is stays.
  record Rests (p q : Place) (steps : List RunStep) (left : List Item) : Type 0 where
    did_not : DidNothing p q steps left
    same : q.agenda.stage ≡ p.agenda.stage

  rests_at : (p q : Place) (left : List Item) → q ≡ p → Rests p q [] left
  rests_at p q left is = record {
    did_not = record {
      none = refl;
      sources = ap (λ (x : Place). x.sources) is;
      disk = ap (λ (x : Place). x.disk) is;
      sink = λ none. ap (λ (x : Place). x.sink) is;
    };
    same = ap (λ (x : Place). x.agenda.stage) is;
  }

  -- the same after a step that takes no event and leaves all but the agenda
  rests_after : (p mid q : Place) (s : RunStep) (steps : List RunStep) (left : List Item) → entries_of s ≡ [] → mid.sources ≡ p.sources → mid.disk ≡ p.disk → (left ≡ [] → mid.sink ≡ p.sink)
      → mid.agenda.stage ≡ p.agenda.stage → Rests mid q steps left → Rests p q (s ∷ steps) left
  rests_after p mid q s steps left none sources_same disk_same sink_same stage_same r = record {
    did_not = record {
      none = ap (λ (l : List Entry). l ++ trace steps) none ∙ r.did_not.none;
      sources = r.did_not.sources ∙ sources_same;
      disk = r.did_not.disk ∙ disk_same;
      sink = λ e. r.did_not.sink e ∙ sink_same e;
    };
    same = r.same ∙ stage_same;
  }

  -- after a fault

  halt_rests : (p q : Place) (why : RunFault) (left : List Item) (steps : List RunStep) → Run given p (halt why ∷ []) steps left q → Rests p q steps left
  halt_rests p q why left [] ran = rests_at p q left ran.1
  halt_rests p q why left (s ∷ steps) (next, mid, goes, more) = absurd (after_halt given p mid why s next goes)

  halted_left : (p q : Place) (why : RunFault) (left : List Item) (steps : List RunStep) → Run given p (halt why ∷ []) steps left q → left ≡ [] → ⊥
  halted_left p q why left [] ran none = let wrong : halt why ∷ [] ≡ [] = sym ran.0 ∙ none in absurd cc
  halted_left p q why left (s ∷ steps) (next, mid, goes, more) none = after_halt given p mid why s next goes

  line_left : (p q : Place) (why : RunFault) (left : List Item) (steps : List RunStep) → Run given p (print_fault why ∷ []) steps left q → left ≡ [] → ⊥
  line_left p q why left [] ran none = let wrong : print_fault why ∷ [] ≡ [] = sym ran.0 ∙ none in absurd cc
  line_left p q why left (s ∷ steps) (next, mid, step.prints_fault w whole k tries, more) none = halted_left mid q why left steps more none
  line_left p q why left (s ∷ steps) (next, mid, step.breaks i entries w x rest fails, more) none = absurd (elim fails [ ])

  line_rests : (p q : Place) (why : RunFault) (left : List Item) (steps : List RunStep) → Run given p (print_fault why ∷ []) steps left q → Rests p q steps left
  line_rests p q why left [] ran = rests_at p q left ran.1
  line_rests p q why left (s ∷ steps) (next, mid, step.prints_fault w whole k tries, more) =
      let last = halted_left mid q why left steps more in
      rests_after p mid q _ steps left refl refl refl (λ e. absurd (last e)) refl (halt_rests mid q why left steps more)
  line_rests p q why left (s ∷ steps) (next, mid, step.breaks i entries w x rest fails, more) = absurd (elim fails [ ])

  -- nothing was done after it, and something is left
  record Rested (p q : Place) (steps : List RunStep) (left : List Item) : Type 0 where
    rests : Rests p q steps left
    some : left ≡ [] → ⊥

  fault_rests : (p q : Place) (why : RunFault) (left : List Item) (steps : List RunStep) → Run given p (after_fault why) steps left q → Rested p q steps left
  fault_rests p q why left steps ran = by (after_is why)
    where
      by : ((after_fault why ≡ halt why ∷ []) ⊎ (after_fault why ≡ print_fault why ∷ [])) → Rested p q steps left
      by (inl e) =
          let halts = subst (λ (t : List Item). Run given p t steps left q) e ran in
          record { rests = halt_rests p q why left steps halts; some = halted_left p q why left steps halts }
      by (inr e) =
          let tells = subst (λ (t : List Item). Run given p t steps left q) e ran in
          record { rests = line_rests p q why left steps tells; some = line_left p q why left steps tells }

  -- the agenda couldn't say what is next
  broke_rests : (p mid q : Place) (why : RunFault) (left : List Item) (steps : List RunStep) → mid.sources ≡ p.sources → mid.disk ≡ p.disk → mid.agenda.stage ≡ p.agenda.stage
      → Run given mid (after_fault why) steps left q → Rests p q (broke [] why ∷ steps) left
  broke_rests p mid q why left steps sources_same disk_same stage_same more =
      let rested = fault_rests mid q why left steps more in
      rests_after p mid q (broke [] why) steps left refl sources_same disk_same (λ e. absurd (rested.some e)) stage_same rested.rests

  -- Where a field or a program isn't there it comes to its end at once.

  abbrev IsVain : Stage → Type 0
  IsVain stage.New = ⊥
  IsVain stage.Going = ⊥
  IsVain (stage.Counted end) = ⊥
  IsVain (stage.NoField id) = Unit {0}
  IsVain (stage.NoProgram name) = Unit {0}

  vain_says : (how : Stage) (fs : Finds) (a : ByFields P) (w : World) (now : ℕ) (r : Result Action RunFault) (b : ByFields P) → IsVain how → SaysAt how fs a w now r b → (r ≡ Ok action.End) × (b ≡ a)
  vain_says stage.New fs a w now r b vain said = absurd vain
  vain_says stage.Going fs a w now r b vain said = absurd vain
  vain_says (stage.Counted end) fs a w now r b vain said = absurd vain
  vain_says (stage.NoField id) fs a w now r b vain said = said
  vain_says (stage.NoProgram name) fs a w now r b vain said = said

  nothing_rests : (p q : Place) (left : List Item) (steps : List RunStep) → Run given p [] steps left q → Rests p q steps left
  nothing_rests p q left [] ran = rests_at p q left ran.1
  nothing_rests p q left (s ∷ steps) (next, mid, goes, more) = absurd (none_to_do finds sources sink p mid next s goes)

  abbrev answers : Action → Result Action RunFault
  answers t = Ok t

  action_is : (t u : Action) → answers t ≡ answers u → t ≡ u
  action_is t u is = cc

  vain_rests : (p q : Place) (left : List Item) (steps : List RunStep) → IsVain p.agenda.stage → Run given p (ask ∷ []) steps left q → Rests p q steps left
  vain_rests p q left [] vain ran = rests_at p q left ran.1
  vain_rests p q left (s ∷ steps) vain (next, mid, step.asks now t a clock said, more) =
      let v = vain_says p.agenda.stage (finds p.agenda.programs) p.agenda p.world now (Ok t) a vain said in
      rests_after p mid q (chose t) steps left refl refl refl (λ e. refl) (ap (λ (x : ByFields P). x.stage) v.1)
      (nothing_rests mid q left steps (subst (λ (u : Action). Run given mid (items_by u) steps left q) (action_is t action.End v.0) more))
  vain_rests p q left (s ∷ steps) vain (next, mid, step.breaks i entries why there rest (step.unsaid now w a clock said), more) =
      let v = vain_says p.agenda.stage (finds p.agenda.programs) p.agenda p.world now (Err w) a vain said in
      let wrong : Err w ≡ Ok action.End = v.0 in absurd cc
  vain_rests p q left (s ∷ steps) vain (next, mid, step.breaks i entries why there rest (step.uncounted many), more) =
      broke_rests p p q fault.InputTooLong left steps refl refl refl more

  -- what a run does after it looked

  did_before : (p mid q : Place) (left : List Item) (steps : List RunStep) → mid.sources ≡ p.sources → mid.disk ≡ p.disk → mid.sink ≡ p.sink → Rests mid q steps left
      → DidNothing p q (chose action.Nothing ∷ steps) left
  did_before p mid q left steps sources_same disk_same sink_same r = record {
    none = r.did_not.none;
    sources = r.did_not.sources ∙ sources_same;
    disk = r.did_not.disk ∙ disk_same;
    sink = λ e. r.did_not.sink e ∙ sink_same;
  }

  found_run : (p mid q : Place) (ids : List ℕ) (how : Stage) (left : List Item) (steps : List RunStep) → mid.sources ≡ p.sources → mid.disk ≡ p.disk → mid.sink ≡ p.sink → mid.agenda ≡ found p.agenda ids how
      → LookFinds (finds p.agenda.programs) p.agenda.plan (sheet_in p.world) ids how → Run given mid (ask ∷ []) steps left q → LookedFirst finds p q (chose action.Nothing ∷ steps) left
  found_run p mid q ids how left steps sources_same disk_same sink_same same (all_there missing ready order) more =
      all_found missing ready (run_on mid q (ask ∷ []) left steps (moved mid.agenda _ same tt) more)
  found_run p mid q ids how left steps sources_same disk_same sink_same same (no_field id missing) more =
      let at : mid.agenda.stage ≡ stage.NoField id = ap (λ (x : ByFields P). x.stage) same in
      let r = vain_rests mid q left steps (subst IsVain (sym at) tt) more in
      in_vain ids (stage.NoField id) (λ no. no) (no_field id missing) (r.same ∙ at) (did_before p mid q left steps sources_same disk_same sink_same r)
  found_run p mid q ids how left steps sources_same disk_same sink_same same (no_program name missing lacking) more =
      let at : mid.agenda.stage ≡ stage.NoProgram name = ap (λ (x : ByFields P). x.stage) same in
      let r = vain_rests mid q left steps (subst IsVain (sym at) tt) more in
      in_vain ids (stage.NoProgram name) (λ no. no) (no_program name missing lacking) (r.same ∙ at) (did_before p mid q left steps sources_same disk_same sink_same r)

  looked_run : (p mid q : Place) (t : Action) (left : List Item) (steps : List RunStep) → mid.sources ≡ p.sources → mid.disk ≡ p.disk → mid.sink ≡ p.sink
      → LooksFor (finds p.agenda.programs) p.agenda p.world (Ok t) mid.agenda → Run given mid (items_by t) steps left q → LookedFirst finds p q (chose t ∷ steps) left
  looked_run p mid q t left steps sources_same disk_same sink_same (looked ids how finding is same) more =
      let nothing = action_is t action.Nothing is in
      subst (λ (u : Action). LookedFirst finds p q (chose u ∷ steps) left) (sym nothing)
      (found_run p mid q ids how left steps sources_same disk_same sink_same same finding (subst (λ (u : Action). Run given mid (items_by u) steps left q) nothing more))
  looked_run p mid q t left steps sources_same disk_same sink_same (unlooked is same) more = let wrong : Ok t ≡ Err fault.OutOfMemory = is in absurd cc

  at_new : (fs : Finds) (a : ByFields P) (w : World) (now : ℕ) (r : Result Action RunFault) (b : ByFields P) → a.stage ≡ stage.New → SaysAt a.stage fs a w now r b → LooksFor fs a w r b
  at_new fs a w now r b new said = subst (λ (how : Stage). SaysAt how fs a w now r b) new said

  unlooked_same : (fs : Finds) (a : ByFields P) (w : World) (why : RunFault) (b : ByFields P) → LooksFor fs a w (Err why) b → b.stage ≡ a.stage
  unlooked_same fs a w why b (looked ids how finding is same) = let wrong : Err why ≡ Ok action.Nothing = is in absurd cc
  unlooked_same fs a w why b (unlooked is same) = ap (λ (x : ByFields P). x.stage) same

  pub looked_first : (p q : Place) (left : List Item) (steps : List RunStep) → p.agenda.stage ≡ stage.New → Run given p (ask ∷ []) steps left q → LookedFirst finds p q steps left
  looked_first p q left [] new ran =
      let r = rests_at p q left ran.1 in not_looked (r.same ∙ new) r.did_not
  looked_first p q left (s ∷ steps) new (next, mid, step.asks now t a clock said, more) =
      looked_run p mid q t left steps refl refl refl (at_new (finds p.agenda.programs) p.agenda p.world now (Ok t) a new said) more
  looked_first p q left (s ∷ steps) new (next, mid, step.breaks i entries why there rest (step.unsaid now w a clock said), more) =
      let still = unlooked_same (finds p.agenda.programs) p.agenda p.world w a (at_new (finds p.agenda.programs) p.agenda p.world now (Err w) a new said) in
      let r = broke_rests p mid q w left steps refl refl still more in
      not_looked (r.same ∙ new) r.did_not
  looked_first p q left (s ∷ steps) new (next, mid, step.breaks i entries why there rest (step.uncounted many), more) =
      let r = broke_rests p p q fault.InputTooLong left steps refl refl refl more in
      not_looked (r.same ∙ new) r.did_not

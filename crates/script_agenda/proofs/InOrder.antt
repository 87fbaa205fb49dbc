-- Lines are taken in order.
use Rattle.std.proofs.Common.{◌≡◌, ◌∙◌, ℕ, List, [], ◌∷◌, ◌++◌, ap, refl, sym, subst, append_assoc, Ok, Err}
use Rattle.std.specs.Prelude.{Option, None, Result, Some}
use Rattle.host_events.specs.declared.event.Event.{Event}
use Rattle.session_engine.specs.World.{World}
use Rattle.session_engine.specs.Joining.{ToBeTaken, alone, asking, with_more}
use Rattle.child_edge.specs.Faithful.{Entry}
use Rattle.sheet_text.specs.Script.{line_of}
use Rattle.sheet_text.specs.declared.script.ScriptLine.{ScriptLine}
use Rattle.sheet_text.specs.declared.script.ScriptLine.TheVariants as line
use Rattle.offline_programs.specs.declared.fault.RunFault.{RunFault}
use Rattle.driver.specs.declared.action.Action.{Action}
use Rattle.driver.specs.Items.{Item, RunStep}
use Rattle.driver.specs.Place.{RunPlace, SinkRules, SourceRules, rules}
use Rattle.driver.specs.Steps.{Fails, Goes, Run}
use Rattle.driver.specs.Steps as step
use Rattle.script_agenda.specs.InOrder.{TookLines}
use Rattle.script_agenda.specs.Says.{LineAsks, SaysOfLines, SaysIn, TakesOneLine, WaitSays, as_group, at_end, by_itself, next_life, next_round, skips, stopped, uncounted, unlisted, wait_over}
use Rattle.script_agenda.specs.ScriptAt.{ScriptAt, after_one_line}
use Rattle.script_agenda.specs.ScriptRules.{ScriptJoins, script_rules}

none_taken : (a b : ScriptAt) → b.lines ≡ a.lines → TookLines a b
none_taken a b same = record { taken = []; are = sym same }

pub in_order_on : (a b c : ScriptAt) → TookLines a b → TookLines b c → TookLines a c
in_order_on a b c first last = record { taken = first.taken ++ last.taken; are = first.are ∙ ap (λ (l : List (List ℕ)). first.taken ++ l) last.are ∙ sym (append_assoc first.taken last.taken c.lines) }

-- the same lines are left
same_left : (a b c : ScriptAt) → c ≡ b → b.lines ≡ a.lines → TookLines a c
same_left a b c is same = none_taken a c (ap (λ (x : ScriptAt). x.lines) is ∙ same)

of_action : (l : Option ScriptLine) (a : ScriptAt) (t : Action) (b : ScriptAt) → LineAsks l a t b → b.lines ≡ a.lines
of_action None a t b asks = ap (λ (x : ScriptAt). x.lines) asks.1
of_action (Some line.Skip) a t b asks = ap (λ (x : ScriptAt). x.lines) asks.1
of_action (Some (line.Command c)) a t b asks = ap (λ (x : ScriptAt). x.lines) asks.1
of_action (Some line.Wait) a t b asks = ap (λ (x : ScriptAt). x.lines) asks.1
of_action (Some line.Print) a t b asks = ap (λ (x : ScriptAt). x.lines) asks.1

of_line : (l : Option ScriptLine) (a : ScriptAt) (r : Result Action RunFault) (b : ScriptAt) → TakesOneLine l a r b → b.lines ≡ a.lines
of_line l a (Ok t) b takes = of_action l a t b takes
of_line l a (Err why) b takes = ap (λ (x : ScriptAt). x.lines) takes.2

of_wait : (a : ScriptAt) (w : World) (rounds : ℕ) (r : Result Action RunFault) (b : ScriptAt) → WaitSays a w rounds r b → TookLines a b
of_wait a w rounds r b (next_life seat rest round is same) = same_left a _ b same refl
of_wait a w rounds r b (next_round seat rest round few waiting is same) = same_left a _ b same refl
of_wait a w rounds r b (wait_over round over is same) = same_left a _ b same refl
of_wait a w rounds r b (unlisted is same) = same_left a _ b same refl

of_lines : (a : ScriptAt) (r : Result Action RunFault) (b : ScriptAt) → SaysOfLines a r b → TookLines a b
of_lines a r b (at_end none is same) = same_left a _ b same refl
of_lines a r b (stopped wrong is same) = same_left a _ b same refl
of_lines a r b (uncounted many is same) = same_left a _ b same refl
of_lines a r b (as_group going takes) = record { taken = takes.gathers.given; are = takes.gathers.split ∙ ap (λ (l : List (List ℕ)). takes.gathers.given ++ l) (sym (ap (λ (x : ScriptAt). x.lines) takes.stands)) }
of_lines a r b (skips rest number going gathers more count is same) = record { taken = gathers.given; are = gathers.split ∙ ap (λ (l : List (List ℕ)). gathers.given ++ l) (sym (ap (λ (x : ScriptAt). x.lines) same)) }
of_lines a r b (by_itself l rest going next takes) = record { taken = l ∷ []; are = next ∙ ap (λ (ls : List (List ℕ)). l ∷ ls) (sym (of_line (line_of l) (after_one_line a rest) r b takes)) }

of_saying : (wait : Option ℕ) (a : ScriptAt) (w : World) (r : Result Action RunFault) (b : ScriptAt) → SaysIn wait a w r b → TookLines a b
of_saying None a w r b said = of_lines a r b said
of_saying (Some rounds) a w r b said = of_wait a w rounds r b said

none_joined : (a b : ScriptAt) (w : World) (events all : List Event) → ToBeTaken (asking ScriptJoins a b) w events all → TookLines a b
none_joined a b w events all (alone same) = same_left a a b same refl
none_joined a b w events all (with_more reported first more j) = same_left a a b j.answered.2 refl

module _ {C K : Type 0} (sources : SourceRules C) (sink : SinkRules K) where
  fails_so : (p q : RunPlace ScriptAt C K) (i : Item) (entries : List Entry) (why : RunFault) → Fails (rules script_rules sources sink) p i entries why q → TookLines p.agenda q.agenda
  fails_so p q i entries why (step.unsaid now w a clock said) = of_saying p.agenda.wait p.agenda p.world (Err w) a said
  fails_so p q i entries why (step.uncounted many) = none_taken p.agenda p.agenda refl
  fails_so p q i entries why (step.unwatched x c wakes) = none_taken p.agenda p.agenda refl
  fails_so p q i entries why (step.unheard seat most) = none_taken p.agenda p.agenda refl
  fails_so p q i entries why (step.too_many from events many) = none_taken p.agenda p.agenda refl
  fails_so p q i entries why (step.untaken from events) = none_taken p.agenda p.agenda refl
  fails_so p q i entries why (step.lost from events h l) = none_taken p.agenda p.agenda refl
  fails_so p q i entries why (step.broken from events bs e x w c d h t failed) = none_taken p.agenda p.agenda refl
  fails_so p q i entries why (step.too_many_heard events many) = none_taken p.agenda p.agenda refl
  fails_so p q i entries why (step.unjoined events) = none_taken p.agenda p.agenda refl
  fails_so p q i entries why (step.lost_joined events all a h all_are l) = none_joined p.agenda a p.world events all all_are
  fails_so p q i entries why (step.broken_joined events all a bs e x w c d h all_are t failed) = none_joined p.agenda a p.world events all all_are
  fails_so p q i entries why (step.too_many_whole first events many) = none_taken p.agenda p.agenda refl
  fails_so p q i entries why (step.untaken_whole first events) = none_taken p.agenda p.agenda refl
  fails_so p q i entries why (step.lost_whole first events h l) = none_taken p.agenda p.agenda refl
  fails_so p q i entries why (step.untaken_edits up_to events) = none_taken p.agenda p.agenda refl
  fails_so p q i entries why (step.lost_edits up_to events h l) = none_taken p.agenda p.agenda refl
  fails_so p q i entries why (step.broken_alone x f h gone) = none_taken p.agenda p.agenda refl
  fails_so p q i entries why (step.unreceived seat) = none_taken p.agenda p.agenda refl
  fails_so p q i entries why (step.unwritten line x h failed) = none_taken p.agenda p.agenda refl
  fails_so p q i entries why (step.unnumbered line many) = none_taken p.agenda p.agenda refl
  fails_so p q i entries why step.unstalled = none_taken p.agenda p.agenda refl
  fails_so p q i entries why (step.uncounted_line first outcomes many) = none_taken p.agenda p.agenda refl
  fails_so p q i entries why (step.unprinted s w k is t) = none_taken p.agenda p.agenda refl

  step_leads : (p q : RunPlace ScriptAt C K) (todo next : List Item) (s : RunStep) → Goes (rules script_rules sources sink) p todo s next q → TookLines p.agenda q.agenda
  step_leads p q todo next s (step.asks now t a clock said) = of_saying p.agenda.wait p.agenda p.world (Ok t) a said
  step_leads p q todo next s (step.watches x w c a rest wakes reported) = same_left p.agenda p.agenda a reported refl
  step_leads p q todo next s (step.hears seat most events c rest h) = none_taken p.agenda p.agenda refl
  step_leads p q todo next s (step.takes from events outcomes followed w c d rest t) = none_taken p.agenda p.agenda refl
  step_leads p q todo next s (step.joins events outcomes first more later followed a w c d rest j t) = same_left p.agenda p.agenda a j.answered.2 refl
  step_leads p q todo next s (step.takes_whole first events outcomes w d rest t) = none_taken p.agenda p.agenda refl
  step_leads p q todo next s (step.refuses_whole first events outcomes one rest r) = none_taken p.agenda p.agenda refl
  step_leads p q todo next s (step.takes_edits up_to events done outcomes w d rest first t) = none_taken p.agenda p.agenda refl
  step_leads p q todo next s (step.takes_alone x o w d rest gives kept) = none_taken p.agenda p.agenda refl
  step_leads p q todo next s (step.carries o answer c rest went) = none_taken p.agenda p.agenda refl
  step_leads p q todo next s (step.receives seat x c rest was) = none_taken p.agenda p.agenda refl
  step_leads p q todo next s (step.rewrites line o w d rest gives kept) = none_taken p.agenda p.agenda refl
  step_leads p q todo next s (step.stalls_all rest) = none_taken p.agenda p.agenda refl
  step_leads p q todo next s (step.interrupts name reported c rest i) = none_taken p.agenda p.agenda refl
  step_leads p q todo next s (step.prints t k rest went) = none_taken p.agenda p.agenda refl
  step_leads p q todo next s (step.heeds c now n a rest clock (noted, same)) = same_left p.agenda _ a same refl
  step_leads p q todo next s (step.breaks i entries why there rest fails) = fails_so p there i entries why fails
  step_leads p q todo next s (step.prints_fault why out k went) = none_taken p.agenda p.agenda refl

  pub run_in_order : (p q : RunPlace ScriptAt C K) (todo left : List Item) (steps : List RunStep) → Run (rules script_rules sources sink) p todo steps left q → TookLines p.agenda q.agenda
  run_in_order p q todo left [] ran = subst (λ (x : RunPlace ScriptAt C K). TookLines p.agenda x.agenda) (sym ran.1) (none_taken p.agenda p.agenda refl)
  run_in_order p q todo left (s ∷ steps) (next, mid, goes, more) = in_order_on p.agenda mid.agenda q.agenda (step_leads p mid todo next s goes) (run_in_order mid q next left steps more)

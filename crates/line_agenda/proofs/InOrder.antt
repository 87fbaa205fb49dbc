-- A run of lines takes those of its input, in order.
use Rattle.std.proofs.Common.{◌≡◌, ◌∙◌, ℕ, ◌+◌, List, [], ◌∷◌, ◌++◌, ap, append_assoc, append-nil, arith, length, length-append, refl, subst, sym, Ok, Err}
use Rattle.std.proofs.lemmas.List.{length-map}
use Rattle.std.specs.Prelude.{IfSome, Option, None, Some, Result, map}
use Rattle.session_engine.specs.World.{World}
use Rattle.host_events.specs.declared.event.Event.{Event}
use Rattle.session_engine.specs.Joining.{ToBeTaken, alone, asking, with_more}
use Rattle.child_edge.specs.Faithful.{Entry}
use Rattle.arrivals.specs.Lines.{InputLine, whole}
use Rattle.arrivals.specs.Held.{Held, KeepsLines, left_with, to_come}
use Rattle.live.specs.Arrivals.{said_by}
use Rattle.offline_programs.specs.declared.fault.RunFault.{RunFault}
use Rattle.driver.specs.declared.action.Action.{Action}
use Rattle.driver.specs.Items.{Item, RunStep}
use Rattle.driver.specs.Place.{RunPlace, SinkRules, SourceRules, rules}
use Rattle.driver.specs.Steps.{Fails, Goes, Run}
use Rattle.driver.specs.Steps as step
use Rattle.line_agenda.specs.declared.doing.Transaction.{Transaction}
use Rattle.line_agenda.specs.declared.matter.Matter.{Matter}
use Rattle.line_agenda.specs.declared.matter.Matter.TheVariants as matter
use Rattle.line_agenda.specs.InputOrder.{TookInOrder}
use Rattle.line_agenda.proofs.Opened.{Opened, closed, closed_so, one_more}
use Rattle.line_agenda.specs.LinesAt.{LinesAt, coming, given_to, heeded}
use Rattle.line_agenda.specs.LinesRules.{LinesJoin, lines_rules}
use Rattle.line_agenda.specs.Says.{LinesSay, SaysLimit, SaysMatter, first_of, of_none, says, stopped, uncounted, unlisted, warns}
use Rattle.line_agenda.specs.Taking.{ComeNext, EndsInput, ReadsOn, TakesGivenLine, TakesInput, alone, ended, reads_on, together}

abbrev pub Come : List InputLine → Option (List InputLine) → Option (List InputLine) → Type 0
Come taken old new = IfSome old (λ lines. (rest : List InputLine) × (new ≡ Some rest) × (lines ≡ taken ++ rest))

come_none : (old : Option (List InputLine)) → Come [] old old
come_none None = tt
come_none (Some lines) = (lines, refl, refl)

come_kept : (old new : Option (List InputLine)) → KeepsLines old new → Come [] old new
come_kept None new keeps = tt
come_kept (Some lines) new keeps = (lines, keeps, refl)

pub come_next : (lines : List InputLine) (h k : Held) (remaining : Option (List ℕ)) → ComeNext lines h k → Come lines (to_come h remaining) (to_come k remaining)
come_next lines h k None next = tt
come_next lines h k (Some more) next = (left_with k more, refl, next more)

pub come_on : (xs ys : List InputLine) (a b c : Option (List InputLine)) → Come xs a b → Come ys b c → Come (xs ++ ys) a c
come_on xs ys None b c first last = tt
come_on xs ys (Some lines) b c (rest, there, are) last = by (subst (λ (o : Option (List InputLine)). Come ys o c) there last)
  where
    by : Come ys (Some rest) c → Come (xs ++ ys) (Some lines) c
    by (after, is, split) = (after, is, are ∙ ap (λ (l : List InputLine). xs ++ l) split ∙ sym (append_assoc xs ys after))

-- These lines were taken, and what is open after them came of them.
pub record Leads (a b : LinesAt) : Type 0 where
  pub order : TookInOrder a b
  pub keeps : (before : List InputLine) → Opened before a.transaction → Opened (before ++ order.taken) b.transaction

as_it_was : (before : List InputLine) (o p : Option Transaction) → p ≡ o → Opened before o → Opened (before ++ []) p
as_it_was before o p is x = subst (λ (l : List InputLine). Opened l p) (sym (append-nil before)) (subst (λ (q : Option Transaction). Opened before q) (sym is) x)

come_same : (old new : Option (List InputLine)) → new ≡ old → Come [] old new
come_same old new same = subst (λ (o : Option (List InputLine)). Come [] old o) (sym same) (come_none old)

-- nothing was taken: the lines to come and their count are the same
stays : (a b : LinesAt) → b.number ≡ a.number → coming b ≡ coming a → b.transaction ≡ a.transaction → Leads a b
stays a b count same transaction = record {
  order = record { taken = []; count = omega (arith, count); are = subst (λ (o : Option (List InputLine)). Come [] (coming a) o) (sym same) (come_none (coming a)) };
  keeps = λ before o. as_it_was before a.transaction b.transaction transaction o;
}

pub in_order_on : (a b c : LinesAt) → Leads a b → Leads b c → Leads a c
in_order_on a b c first last = record {
  order = record {
    taken = first.order.taken ++ last.order.taken;
    count = omega (arith, first.order.count, last.order.count, length-append first.order.taken last.order.taken);
    are = come_on first.order.taken last.order.taken (coming a) (coming b) (coming c) first.order.are last.order.are;
  };
  keeps = λ before o. subst (λ (l : List InputLine). Opened l c.transaction) (append_assoc before first.order.taken last.order.taken) (last.keeps (before ++ first.order.taken) (first.keeps before o));
}

-- where it stands so, and was only noted of it
moved : (a b c : LinesAt) → c ≡ b → Leads a b → Leads a c
moved a b c is p = subst (λ (x : LinesAt). Leads a x) (sym is) p

took : (a b : LinesAt) (lines : List InputLine) → b.number ≡ a.number + length lines → Come lines (coming a) (coming b)
    → ((before : List InputLine) → Opened before a.transaction → Opened (before ++ lines) b.transaction) → Leads a b
took a b lines count come keeps = record { order = record { taken = lines; count = count; are = come }; keeps = keeps }

of_line : (a : LinesAt) (k : Held) (w : World) (now : ℕ) (x : InputLine) (r : Result Action RunFault) (b : LinesAt) → ComeNext (x ∷ []) a.buffer k → TakesGivenLine (given_to a k) w now (said_by x) r b → Leads a b
of_line a k w now x (Ok t) b next (c, asks, is, same) =
    moved a _ b same (took a _ (x ∷ []) refl (come_next (x ∷ []) a.buffer k a.remaining next) (λ before o. one_more before x a.transaction (given_to a k) w now c asks o))
of_line a k w now x (Err why) b next (is, command, same) = moved a _ b same (took a _ (x ∷ []) refl (come_next (x ∷ []) a.buffer k a.remaining next) (λ before o. closed))

same_left : (h k : Held) (remaining : Option (List ℕ)) → ((more : List ℕ) → left_with k more ≡ left_with h more) → to_come k remaining ≡ to_come h remaining
same_left h k None left = refl
same_left h k (Some more) left = ap (λ (l : List InputLine). Some l) (left more)

of_reading : (a : LinesAt) (h : Held) (r : Result Action RunFault) (b : LinesAt) → ((more : List ℕ) → left_with h more ≡ left_with a.buffer more) → ReadsOn (given_to a h) r b → Leads a b
of_reading a h r b left (k, remaining, same, keeps, so) =
    moved a _ b same (took a _ [] (omega arith)
    (come_kept (to_come a.buffer a.remaining) (to_come k remaining) (subst (λ (o : Option (List InputLine)). KeepsLines o (to_come k remaining)) (same_left a.buffer h a.remaining left) keeps))
    (λ before o. as_it_was before a.transaction a.transaction refl o))

of_end : (a : LinesAt) (k : Held) → ((more : List ℕ) → (left_with a.buffer more ≡ []) × (left_with k more ≡ [])) → to_come k a.remaining ≡ to_come a.buffer a.remaining
of_end a k none = same_left a.buffer k a.remaining (λ more. (none more).1 ∙ sym (none more).0)

-- at the end of the input, in a transaction or not
ended_so : (a : LinesAt) (k : Held) (there : Option Transaction) (t : Action) (b : LinesAt) → to_come k a.remaining ≡ to_come a.buffer a.remaining → EndsInput there (given_to a k) t b → Leads a b
ended_so a k None t b left (is, same) = moved a _ b same (stays a _ refl left refl)
ended_so a k (Some transaction) t b left (is, same) = moved a _ b same (took a _ [] (omega arith) (come_same (coming a) _ left) (λ before o. closed))

of_input : (a : LinesAt) (w : World) (now : ℕ) (r : Result Action RunFault) (b : LinesAt) → TakesInput a w now r b → Leads a b
of_input a w now r b (together given k t lax none grouped one few ready next is asks same) =
    moved a _ b same (took a _ (map whole given) (ap (λ (n : ℕ). a.number + n) (sym (length-map given whole))) (come_next (map whole given) a.buffer k a.remaining next)
    (λ before o. closed_so (before ++ map whole given) a.transaction none))
of_input a w now r b (alone l k ready next takes) = of_line a k w now l r b next takes
of_input a w now r b (reads_on k ready left reads) = of_reading a k r b left reads
of_input a w now r b (ended k t ready none is ends) = ended_so a k a.transaction t b (of_end a k none) ends

-- nothing of the input changed, and no line was counted
pub same_lines : (a b : LinesAt) → b.buffer ≡ a.buffer → b.remaining ≡ a.remaining → b.number ≡ a.number → b.transaction ≡ a.transaction → Leads a b
same_lines a b buffer remaining number transaction =
    stays a b number (ap (λ (h : Held). to_come h b.remaining) buffer ∙ ap (λ (o : Option (List ℕ)). to_come a.buffer o) remaining) transaction

of_limit : (a : LinesAt) (w : World) (now : ℕ) (r : Result Action RunFault) (b : LinesAt) → SaysLimit a w now r b → Leads a b
of_limit a w now r b (first_of seat rest waiting is same) = moved a _ b same (same_lines a _ refl refl refl refl)
of_limit a w now r b (of_none waiting is same) = moved a _ b same (same_lines a _ refl refl refl refl)
of_limit a w now r b (unlisted is same) = moved a a b same (same_lines a a refl refl refl refl)

of_matter : (a : LinesAt) (w : World) (now : ℕ) (m : Matter) (r : Result Action RunFault) (b : LinesAt) → SaysMatter a w now m r b → Leads a b
of_matter a w now matter.Untimely r b said = moved a a b said.1 (same_lines a a refl refl refl refl)
of_matter a w now matter.Watch r b (there, ready, is, same) = moved a a b same (same_lines a a refl refl refl refl)
of_matter a w now matter.Input r b said = of_input a w now r b said
of_matter a w now (matter.Life seat) r b said = moved a _ b said.1 (same_lines a _ refl refl refl refl)
of_matter a w now matter.Limit r b said = of_limit a w now r b said
of_matter a w now matter.Stall r b said = moved a _ b said.1 (same_lines a _ refl refl refl refl)

of_saying : (a : LinesAt) (w : World) (now : ℕ) (r : Result Action RunFault) (b : LinesAt) → LinesSay a w now r b → Leads a b
of_saying a w now r b (stopped held is same) = moved a a b same (same_lines a a refl refl refl refl)
of_saying a w now r b (uncounted many is same) = moved a a b same (same_lines a a refl refl refl refl)
of_saying a w now r b (warns seat rest late is same) = moved a _ b same (same_lines a _ refl refl refl refl)
of_saying a w now r b (says m going none about said) = in_order_on a (heeded a) b (same_lines a (heeded a) refl refl refl refl) (of_matter (heeded a) w now m r b said)

-- no line joined what lives gave
none_joined : (a b : LinesAt) (w : World) (events all : List Event) → ToBeTaken (asking LinesJoin a b) w events all → Leads a b
none_joined a b w events all (alone same) = moved a a b same (same_lines a a refl refl refl refl)
none_joined a b w events all (with_more reported first more j) = moved a a b j.answered.2 (same_lines a a refl refl refl refl)

module _ {C K : Type 0} (sources : SourceRules C) (sink : SinkRules K) where
  fails_so : (p q : RunPlace LinesAt C K) (i : Item) (entries : List Entry) (why : RunFault) → Fails (rules lines_rules sources sink) p i entries why q → Leads p.agenda q.agenda
  fails_so p q i entries why (step.unsaid now w a clock said) = of_saying p.agenda p.world now (Err w) a said
  fails_so p q i entries why (step.uncounted many) = same_lines p.agenda p.agenda refl refl refl refl
  fails_so p q i entries why (step.unwatched x c wakes) = same_lines p.agenda p.agenda refl refl refl refl
  fails_so p q i entries why (step.unheard seat most) = same_lines p.agenda p.agenda refl refl refl refl
  fails_so p q i entries why (step.too_many from events many) = same_lines p.agenda p.agenda refl refl refl refl
  fails_so p q i entries why (step.untaken from events) = same_lines p.agenda p.agenda refl refl refl refl
  fails_so p q i entries why (step.lost from events h l) = same_lines p.agenda p.agenda refl refl refl refl
  fails_so p q i entries why (step.broken from events bs e x w c d h t failed) = same_lines p.agenda p.agenda refl refl refl refl
  fails_so p q i entries why (step.too_many_heard events many) = same_lines p.agenda p.agenda refl refl refl refl
  fails_so p q i entries why (step.unjoined events) = same_lines p.agenda p.agenda refl refl refl refl
  fails_so p q i entries why (step.lost_joined events all a h all_are l) = none_joined p.agenda a p.world events all all_are
  fails_so p q i entries why (step.broken_joined events all a bs e x w c d h all_are t failed) = none_joined p.agenda a p.world events all all_are
  fails_so p q i entries why (step.too_many_whole first events many) = same_lines p.agenda p.agenda refl refl refl refl
  fails_so p q i entries why (step.untaken_whole first events) = same_lines p.agenda p.agenda refl refl refl refl
  fails_so p q i entries why (step.lost_whole first events h l) = same_lines p.agenda p.agenda refl refl refl refl
  fails_so p q i entries why (step.untaken_edits up_to events) = same_lines p.agenda p.agenda refl refl refl refl
  fails_so p q i entries why (step.lost_edits up_to events h l) = same_lines p.agenda p.agenda refl refl refl refl
  fails_so p q i entries why (step.broken_alone x f h gone) = same_lines p.agenda p.agenda refl refl refl refl
  fails_so p q i entries why (step.unreceived seat) = same_lines p.agenda p.agenda refl refl refl refl
  fails_so p q i entries why (step.unwritten line x h failed) = same_lines p.agenda p.agenda refl refl refl refl
  fails_so p q i entries why (step.unnumbered line many) = same_lines p.agenda p.agenda refl refl refl refl
  fails_so p q i entries why step.unstalled = same_lines p.agenda p.agenda refl refl refl refl
  fails_so p q i entries why (step.uncounted_line first outcomes many) = same_lines p.agenda p.agenda refl refl refl refl
  fails_so p q i entries why (step.unprinted s w k is t) = same_lines p.agenda p.agenda refl refl refl refl

  pub step_leads : (p q : RunPlace LinesAt C K) (todo next : List Item) (s : RunStep) → Goes (rules lines_rules sources sink) p todo s next q → Leads p.agenda q.agenda
  step_leads p q todo next s (step.asks now t a clock said) = of_saying p.agenda p.world now (Ok t) a said
  step_leads p q todo next s (step.watches x w c a rest wakes reported) = moved p.agenda _ a reported (same_lines p.agenda _ refl refl refl refl)
  step_leads p q todo next s (step.hears seat most events c rest h) = same_lines p.agenda p.agenda refl refl refl refl
  step_leads p q todo next s (step.takes from events outcomes followed w c d rest t) = same_lines p.agenda p.agenda refl refl refl refl
  step_leads p q todo next s (step.joins events outcomes first more later followed a w c d rest j t) = moved p.agenda p.agenda a j.answered.2 (same_lines p.agenda p.agenda refl refl refl refl)
  step_leads p q todo next s (step.takes_whole first events outcomes w d rest t) = same_lines p.agenda p.agenda refl refl refl refl
  step_leads p q todo next s (step.refuses_whole first events outcomes one rest r) = same_lines p.agenda p.agenda refl refl refl refl
  step_leads p q todo next s (step.takes_edits up_to events done outcomes w d rest first t) = same_lines p.agenda p.agenda refl refl refl refl
  step_leads p q todo next s (step.takes_alone x o w d rest gives kept) = same_lines p.agenda p.agenda refl refl refl refl
  step_leads p q todo next s (step.carries o answer c rest went) = same_lines p.agenda p.agenda refl refl refl refl
  step_leads p q todo next s (step.receives seat x c rest was) = same_lines p.agenda p.agenda refl refl refl refl
  step_leads p q todo next s (step.rewrites line o w d rest gives kept) = same_lines p.agenda p.agenda refl refl refl refl
  step_leads p q todo next s (step.stalls_all rest) = same_lines p.agenda p.agenda refl refl refl refl
  step_leads p q todo next s (step.interrupts name reported c rest i) = same_lines p.agenda p.agenda refl refl refl refl
  step_leads p q todo next s (step.prints t k rest went) = same_lines p.agenda p.agenda refl refl refl refl
  step_leads p q todo next s (step.heeds c now n a rest clock (held, done, same)) = moved p.agenda _ a same (same_lines p.agenda _ refl refl refl refl)
  step_leads p q todo next s (step.breaks i entries why there rest fails) = fails_so p there i entries why fails
  step_leads p q todo next s (step.prints_fault why out k went) = same_lines p.agenda p.agenda refl refl refl refl

  pub run_leads : (p q : RunPlace LinesAt C K) (todo left : List Item) (steps : List RunStep) → Run (rules lines_rules sources sink) p todo steps left q → Leads p.agenda q.agenda
  run_leads p q todo left [] ran = subst (λ (x : RunPlace LinesAt C K). Leads p.agenda x.agenda) (sym ran.1) (same_lines p.agenda p.agenda refl refl refl refl)
  run_leads p q todo left (s ∷ steps) (next, mid, goes, more) = in_order_on p.agenda mid.agenda q.agenda (step_leads p mid todo next s goes) (run_leads mid q next left steps more)

  pub run_in_order : (p q : RunPlace LinesAt C K) (todo left : List Item) (steps : List RunStep) → Run (rules lines_rules sources sink) p todo steps left q → TookInOrder p.agenda q.agenda
  run_in_order p q todo left steps ran = (run_leads p q todo left steps ran).order

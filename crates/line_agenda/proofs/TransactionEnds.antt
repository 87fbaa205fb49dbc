-- Commands that are taken all or not at all are those of a transaction of the input.
use Rattle.std.proofs.Common.{◌≡◌, ◌∙◌, inl, inr, ℕ, ◌+◌, ◌-◌, Bool, true, false, true≢false, List, [], ◌∷◌, ◌++◌, ap, append_assoc, arith, length, length-append, refl, subst, sym, Ok}
use Rattle.std.proofs.lemmas.List.{length-map}
use Rattle.std.specs.Prelude.{◌&&◌, not, cond, IfSome, nat_lt, Option, None, Some, Result, map}
use Rattle.session_engine.specs.World.{World}
use Rattle.session_engine.specs.Whole.{is_edit}
use Rattle.host_events.specs.declared.command.Command.{Command}
use Rattle.host_events.specs.declared.event.Event.{Event}
use Rattle.host_events.specs.declared.event.Event.TheVariants as event
use Rattle.arrivals.specs.Lines.{InputLine}
use Rattle.arrivals.specs.Held.{Held}
use Rattle.sheet_text.specs.declared.script.ScriptLine.TheVariants as line
use Rattle.live.specs.declared.live_line.LiveLine.{LiveLine}
use Rattle.live.specs.declared.live_line.LiveLine.TheVariants as live
use Rattle.live.specs.declared.holding.Hold.{Hold}
use Rattle.live.specs.declared.manner.Manner.{Manner}
use Rattle.live.specs.Arrivals.{said_by}
use Rattle.offline_programs.specs.declared.fault.RunFault.{RunFault}
use Rattle.driver.specs.declared.action.Action.{Action}
use Rattle.driver.specs.declared.action.Action.TheVariants as action
use Rattle.driver.specs.Items.{Item, RunStep, chose}
use Rattle.driver.specs.Place.{RunPlace, SinkRules, SourceRules, rules}
use Rattle.driver.specs.Steps.{Goes, Run, most_together}
use Rattle.driver.specs.Steps as step
use Rattle.line_agenda.specs.declared.doing.Transaction.{Transaction}
use Rattle.line_agenda.specs.declared.doing.LineChoice.{LineChoice}
use Rattle.line_agenda.specs.declared.matter.Matter.{Matter}
use Rattle.line_agenda.specs.declared.matter.Matter.TheVariants as matter
use Rattle.line_agenda.specs.Alone.{AsksAlone, AsksCommand, BeginsWait}
use Rattle.line_agenda.specs.TransactionLines.{IsOfTransaction, line_of_event}
use Rattle.line_agenda.specs.Transactions.{asked_in, breaks_transaction, ends_transaction, first_bad, in_silence, keeps_command, with_edit}
use Rattle.line_agenda.specs.LinesAt.{LinesAt, coming, given_to, heeded}
use Rattle.line_agenda.specs.LinesRules.{lines_rules}
use Rattle.line_agenda.specs.Says.{LinesSay, SaysLimit, SaysMatter, first_of, of_none, says, stopped, uncounted, unlisted, warns}
use Rattle.line_agenda.specs.Taking.{AsksIn, ComeNext, EndsInput, TakesInput, alone, ended, reads_on, together}
use Rattle.line_agenda.proofs.InOrder.{Come, Leads, come_next, come_on, in_order_on, step_leads}
use Rattle.line_agenda.proofs.Opened.{Opened, closed_so, opened, spoilt}

abbrev is_whole : Result Action RunFault → Bool
is_whole (Ok (action.Transaction first edits)) = true
is_whole _ = false

abbrev first_in : Result Action RunFault → ℕ
first_in (Ok (action.Transaction first edits)) = first
first_in _ = 0

abbrev edits_in : Result Action RunFault → List Event
edits_in (Ok (action.Transaction first edits)) = edits
edits_in _ = []

abbrev answer : LineChoice → Result Action RunFault
answer c = Ok c.action

-- At the next line, which ends it, the transaction that is open has these commands, of lines from this one on.
record EndsTransaction (a : LinesAt) (first : ℕ) (edits : List Event) : Type 0 where
  transaction : Transaction
  is_open : a.transaction ≡ Some transaction
  right : transaction.broken ≡ false
  are : transaction.edits ≡ edits
  ends : InputLine
  said : said_by ends ≡ Some live.End
  number : first ≡ a.number + 1 - length edits
  left : Held
  next : ComeNext (ends ∷ []) a.buffer left

module _ (first : ℕ) (edits : List Event) where
  abbrev Is : Result Action RunFault → Type 0
  Is r = Ok (action.Transaction first edits) ≡ r

  no_whole : {A : Type 0} (r : Result Action RunFault) → Is r → is_whole r ≡ false → A
  no_whole r is isnt = absurd (true≢false (ap is_whole is ∙ isnt))

  -- what the end of a transaction says
  abbrev Ends : Transaction → ℕ → Option LiveLine → Type 0
  Ends b n l = (l ≡ Some live.End) × (b.broken ≡ false) × (b.edits ≡ edits) × (first ≡ n - length edits)

  at_bad : {A : Type 0} (b : Transaction) (n : ℕ) → Is (Ok (breaks_transaction b n).action) → A
  at_bad {A = A} b n is = by b.broken is
    where
      by : (broken : Bool) → Is (Ok (cond broken (in_silence b) (first_bad b n)).action) → A
      by true e = no_whole _ e refl
      by false e = no_whole _ e refl

  at_command : {A : Type 0} (b : Transaction) (n : ℕ) (e : Event) → Is (Ok (keeps_command b n e).action) → A
  at_command {A = A} b n e is = by (not b.broken && (is_edit e && nat_lt (length b.edits) most_together)) is
    where
      by : (keeps : Bool) → Is (Ok (cond keeps (in_silence (with_edit b e)) (breaks_transaction b n)).action) → A
      by true e = no_whole _ e refl
      by false e = at_bad b n e

  at_end : (b : Transaction) (n : ℕ) → Is (Ok (ends_transaction b.broken b.edits b.first n).action) → Ends b n (Some live.End)
  at_end b n is = by b.broken b.edits refl refl is
    where
      by : (broken : Bool) (es : List Event) → b.broken ≡ broken → b.edits ≡ es → Is (Ok (ends_transaction broken es b.first n).action) → Ends b n (Some live.End)
      by true es broken are e = no_whole _ e refl
      by false [] broken are e = no_whole _ e refl
      by false (x ∷ xs) broken are e =
          let same : edits ≡ x ∷ xs = ap edits_in e in
          (refl, broken, are ∙ sym same, ap first_in e ∙ ap (λ (l : List Event). n - length l) (sym same))

  in_open : (b : Transaction) (n : ℕ) (l : Option LiveLine) → Is (Ok (asked_in b n l).action) → Ends b n l
  in_open b n None is = at_bad b n is
  in_open b n (Some (live.Script line.Skip)) is = at_bad b n is
  in_open b n (Some (live.Script (line.Command c))) is = at_command b n (event.Command c) is
  in_open b n (Some (live.Script line.Wait)) is = at_bad b n is
  in_open b n (Some (live.Script line.Print)) is = at_bad b n is
  in_open b n (Some (live.PrintField id)) is = at_bad b n is
  in_open b n (Some (live.WaitFor seconds)) is = at_bad b n is
  in_open b n (Some (live.Interrupt name)) is = at_bad b n is
  in_open b n (Some (live.Export format)) is = at_bad b n is
  in_open b n (Some live.Begin) is = at_bad b n is
  in_open b n (Some live.End) is = at_end b n is

  -- another action is asked for
  other : {A : Type 0} (c : LineChoice) (t : Action) → Is (Ok c.action) → c.action ≡ t → is_whole (Ok t) ≡ false → A
  other c t is so isnt = no_whole (Ok t) (is ∙ ap Ok so) isnt

  at_wait : {A : Type 0} (n : ℕ) (w : World) (held : Hold) (c : LineChoice) → Is (Ok c.action) → BeginsWait n w held c → A
  at_wait n w held c is (inl (none, so, free, done, shut)) = other c _ is so refl
  at_wait n w held c is (inr (some, so, on, done, shut)) = other c _ is so refl

  at_lone : {A : Type 0} (n : ℕ) (command : Command) (c : LineChoice) → Is (Ok c.action) → AsksCommand n command c.action → A
  at_lone n command c is (inl (checkpoint, so)) = other c _ is so refl
  at_lone n command c is (inr (isnt, lines)) = other c _ is lines.1 refl

  outside : {A : Type 0} (m : Manner) (n : ℕ) (w : World) (now : ℕ) (l : Option LiveLine) (c : LineChoice) → AsksAlone m n w now l c → Is (Ok c.action) → A
  outside m n w now None c ((so, free, shut), done) is = other c _ is so refl
  outside m n w now (Some (live.Script line.Skip)) c ((so, free, shut), done) is = other c _ is so refl
  outside m n w now (Some (live.Script (line.Command command))) c (asks, free, done, shut) is = at_lone n command c is asks
  outside m n w now (Some (live.Script line.Wait)) c begins is = at_wait n w _ c is begins
  outside m n w now (Some (live.Script line.Print)) c ((so, free, shut), done) is = other c _ is so refl
  outside m n w now (Some (live.PrintField id)) c ((so, free, shut), done) is = other c _ is so refl
  outside m n w now (Some (live.WaitFor seconds)) c begins is = at_wait n w _ c is begins
  outside m n w now (Some (live.Interrupt name)) c ((so, free, shut), done) is = other c _ is so refl
  outside m n w now (Some (live.Export format)) c ((so, free, shut), done) is = other c _ is so refl
  outside m n w now (Some live.Begin) c (so, free, done, opens) is = other c _ is so refl
  outside m n w now (Some live.End) c ((so, free, shut), done) is = other c _ is so refl

  of_line : (a : LinesAt) (k : Held) (w : World) (now : ℕ) (x : InputLine) (o : Option Transaction) (c : LineChoice) → a.transaction ≡ o → ComeNext (x ∷ []) a.buffer k
      → AsksIn o (given_to a k) w now (said_by x) c → Is (Ok c.action) → EndsTransaction a first edits
  of_line a k w now x None c there next asks is = outside a.manner (a.number + 1) w now (said_by x) c asks is
  of_line a k w now x (Some b) c there next so is = by (in_open b (a.number + 1) (said_by x) (is ∙ ap answer so))
    where
      by : Ends b (a.number + 1) (said_by x) → EndsTransaction a first edits
      by (said, right, are, number) = record { transaction = b; is_open = there; right = right; are = are; ends = x; said = said; number = number; left = k; next = next }

  at_the_end : {A : Type 0} (o : Option Transaction) (a : LinesAt) (t : Action) (b : LinesAt) → Is (Ok t) → EndsInput o a t b → A
  at_the_end None a t b is (so, same) = no_whole _ (is ∙ ap Ok so) refl
  at_the_end (Some transaction) a t b is (so, same) = no_whole _ (is ∙ ap Ok so) refl

  of_input : (a : LinesAt) (w : World) (now : ℕ) (b : LinesAt) → TakesInput a w now (Ok (action.Transaction first edits)) b → EndsTransaction a first edits
  of_input a w now b (together given k t lax none grouped one few ready next is asks same) = no_whole _ (is ∙ ap Ok asks.1) refl
  of_input a w now b (alone x k ready next (c, asks, is, same)) = of_line a k w now x a.transaction c refl next asks (ap Ok is)
  of_input a w now b (reads_on k ready left (h, remaining, same, keeps, inl is)) = no_whole _ is refl
  of_input a w now b (reads_on k ready left (h, remaining, same, keeps, inr is)) = no_whole _ is refl
  of_input a w now b (ended k t ready none is ends) = at_the_end a.transaction (given_to a k) t b is ends

  at_limit : {A : Type 0} (a : LinesAt) (w : World) (now : ℕ) (b : LinesAt) → SaysLimit a w now (Ok (action.Transaction first edits)) b → A
  at_limit a w now b (first_of seat rest waiting is same) = no_whole _ is refl
  at_limit a w now b (of_none waiting is same) = no_whole _ is refl
  at_limit a w now b (unlisted is same) = no_whole _ is refl

  of_matter : (a : LinesAt) (w : World) (now : ℕ) (m : Matter) (b : LinesAt) → SaysMatter a w now m (Ok (action.Transaction first edits)) b → EndsTransaction a first edits
  of_matter a w now matter.Untimely b said = no_whole _ said.0 refl
  of_matter a w now matter.Watch b (there, ready, is, same) = no_whole _ is refl
  of_matter a w now matter.Input b said = of_input a w now b said
  of_matter a w now (matter.Life seat) b said = no_whole _ said.0 refl
  of_matter a w now matter.Limit b said = at_limit a w now b said
  of_matter a w now matter.Stall b said = no_whole _ said.0 refl

  -- what a watch returned is no matter of the transaction
  as_before : (a : LinesAt) → EndsTransaction (heeded a) first edits → EndsTransaction a first edits
  as_before a e = record { transaction = e.transaction; is_open = e.is_open; right = e.right; are = e.are; ends = e.ends; said = e.said; number = e.number; left = e.left; next = e.next }

  of_saying : (a : LinesAt) (w : World) (now : ℕ) (b : LinesAt) → LinesSay a w now (Ok (action.Transaction first edits)) b → EndsTransaction a first edits
  of_saying a w now b (stopped held is same) = no_whole _ is refl
  of_saying a w now b (uncounted many is same) = no_whole _ is refl
  of_saying a w now b (warns seat rest late is same) = no_whole _ is refl
  of_saying a w now b (says m going none about said) = as_before a (of_matter (heeded a) w now m b said)

  -- the lines from its beginning on, and the one that ends it
  from_there : (front given : List InputLine) (begins ends : InputLine) (taken : List InputLine) (old new : Option (List InputLine)) → taken ≡ front ++ begins ∷ given
      → Come (taken ++ ends ∷ []) old new → IfSome old (λ lines. (rest : List InputLine) × (lines ≡ front ++ begins ∷ given ++ ends ∷ rest))
  from_there front given begins ends taken None new are come = tt
  from_there front given begins ends taken (Some lines) new are (rest, is, split) =
      (rest, split ∙ append_assoc taken (ends ∷ []) rest ∙ ap (λ (l : List InputLine). l ++ ends ∷ rest) are)

  transaction_of : (a b : LinesAt) → a.transaction ≡ None → Leads a b → EndsTransaction b first edits → IsOfTransaction a first edits
  transaction_of a b none leads e = by (subst (λ (o : Option Transaction). Opened leads.order.taken o) e.is_open (leads.keeps [] (closed_so [] a.transaction none)))
    where
      by : Opened leads.order.taken (Some e.transaction) → IsOfTransaction a first edits
      by (spoilt _ broken) = absurd (true≢false (sym broken ∙ e.right))
      by (opened front given begins _ are said each) =
          let many = ap length are in
          let one_each = ap length each in
          record {
            front = front;
            begins = begins;
            given = given;
            ends = e.ends;
            are = from_there front given begins e.ends leads.order.taken (coming a) _ are
                (come_on leads.order.taken (e.ends ∷ []) (coming a) (coming b) _ leads.order.are (come_next (e.ends ∷ []) b.buffer e.left b.remaining e.next));
            number = omega (
              arith,
              e.number,
              leads.order.count,
              many,
              one_each,
              length-append front
                  (begins ∷ given),
              length-map given said_by,
              length-map e.transaction.edits line_of_event,
              ap length e.are,
            );
            said_first = said;
            say = each ∙ ap (λ (es : List Event). map line_of_event es) e.are;
            said_last = e.said;
          }

module _ {C K : Type 0} (sources : SourceRules C) (sink : SinkRules K) where
  asked : (p q : RunPlace LinesAt C K) (todo next : List Item) (first : ℕ) (edits : List Event) (r : LinesAt) → r.transaction ≡ None → Leads r p.agenda
      → Goes (rules lines_rules sources sink) p todo (chose (action.Transaction first edits)) next q → IsOfTransaction r first edits
  asked p q todo next first edits r none leads (step.asks now _ a clock said) = transaction_of first edits r p.agenda none leads (of_saying first edits p.agenda p.world now a said)

  pub run_takes_transactions : (p q : RunPlace LinesAt C K) (todo left : List Item) (before after : List RunStep) (first : ℕ) (edits : List Event) (r : LinesAt)
      → r.transaction ≡ None → Leads r p.agenda → Run (rules lines_rules sources sink) p todo (before ++ chose (action.Transaction first edits) ∷ after) left q → IsOfTransaction r first edits
  run_takes_transactions p q todo left [] after first edits r none leads (next, mid, goes, more) = asked p mid todo next first edits r none leads goes
  run_takes_transactions p q todo left (s ∷ before) after first edits r none leads (next, mid, goes, more) =
      run_takes_transactions mid q next left before after first edits r none (in_order_on r p.agenda mid.agenda leads (step_leads sources sink p mid todo next s goes)) more

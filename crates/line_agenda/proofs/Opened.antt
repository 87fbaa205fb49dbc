-- How a transaction that is open came of the lines that were taken.
use Rattle.std.proofs.Common.{◌≡◌, ◌∙◌, inl, inr, ℕ, ◌+◌, Bool, true, false, List, [], ◌∷◌, ◌++◌, ap, ap₂, append_assoc, refl, subst, sym}
use Rattle.std.specs.Prelude.{◌&&◌, not, cond, length, map, nat_lt, Option, Some, None}
use Rattle.host_events.specs.declared.event.Event.{Event}
use Rattle.host_events.specs.declared.event.Event.TheVariants as event
use Rattle.session_engine.specs.World.{World}
use Rattle.session_engine.specs.Whole.{is_edit}
use Rattle.arrivals.specs.Lines.{InputLine}
use Rattle.sheet_text.specs.declared.script.ScriptLine.TheVariants as line
use Rattle.live.specs.declared.live_line.LiveLine.{LiveLine}
use Rattle.live.specs.declared.live_line.LiveLine.TheVariants as live
use Rattle.live.specs.declared.holding.Hold.{Hold}
use Rattle.live.specs.declared.manner.Manner.{Manner}
use Rattle.live.specs.Arrivals.{said_by}
use Rattle.driver.specs.Steps.{most_together}
use Rattle.line_agenda.specs.declared.doing.Transaction.{Transaction}
use Rattle.line_agenda.specs.declared.doing.LineChoice.{LineChoice}
use Rattle.line_agenda.specs.LinesAt.{LinesAt}
use Rattle.line_agenda.specs.Alone.{AsksAlone, BeginsWait}
use Rattle.line_agenda.specs.Transactions.{asked_in, breaks_transaction, broken_transaction, ends_transaction, first_bad, in_silence, keeps_command, new_transaction, with_edit}
use Rattle.line_agenda.specs.TransactionLines.{line_of_event}
use Rattle.line_agenda.specs.Taking.{AsksIn}

-- None is open, or a broken one, or the lines that were taken end with its `begin` and those that say its commands.
pub data Opened (taken : List InputLine) : Option Transaction → Type 0 where
  closed : Opened taken None
  spoilt : (b : Transaction) → b.broken ≡ true → Opened taken (Some b)
  opened : (front given : List InputLine) (begins : InputLine) (b : Transaction) → taken ≡ front ++ begins ∷ given → said_by begins ≡ Some live.Begin
      → map said_by given ≡ map line_of_event b.edits → Opened taken (Some b)

-- none is open where nothing says so
pub closed_so : (taken : List InputLine) (b : Option Transaction) → b ≡ None → Opened taken b
closed_so taken b is = subst (λ (x : Option Transaction). Opened taken x) (sym is) closed

map-more : {A B : Type 0} (f : A → B) (xs : List A) (x : A) → map f (xs ++ x ∷ []) ≡ map f xs ++ f x ∷ []
map-more f [] x = refl
map-more f (y ∷ ys) x = ap (λ l. f y ∷ l) (map-more f ys x)

module _ (before : List InputLine) (x : InputLine) where
  abbrev Then : Option Transaction → Type 0
  Then b = Opened (before ++ x ∷ []) b

  broke : (b : Transaction) (n : ℕ) → Then (breaks_transaction b n).transaction
  broke b n = by b.broken refl
    where
      by : (is : Bool) → b.broken ≡ is → Then (cond is (in_silence b) (first_bad b n)).transaction
      by true is = spoilt b is
      by false is = spoilt (broken_transaction b) refl

  kept_one : (b : Transaction) (e : Event) → said_by x ≡ line_of_event e → Opened before (Some b) → Then (Some (with_edit b e))
  kept_one b e says (spoilt _ is) = spoilt (with_edit b e) is
  kept_one b e says (opened front given begins _ are first each) =
      opened front (given ++ x ∷ []) begins (with_edit b e)
      (ap (λ (l : List InputLine). l ++ x ∷ []) are ∙ append_assoc front (begins ∷ given) (x ∷ []))
      first
      (map-more said_by given x ∙ ap₂ (λ (l : List (Option LiveLine)) (m : Option LiveLine). l ++ m ∷ []) each says ∙ sym (map-more line_of_event b.edits e))

  kept : (b : Transaction) (n : ℕ) (e : Event) → said_by x ≡ line_of_event e → Opened before (Some b) → Then (keeps_command b n e).transaction
  kept b n e says o = by (not b.broken && (is_edit e && nat_lt (length b.edits) most_together))
    where
      by : (is : Bool) → Then (cond is (in_silence (with_edit b e)) (breaks_transaction b n)).transaction
      by true = kept_one b e says o
      by false = broke b n

  ended : (broken : Bool) (edits : List Event) (first last : ℕ) → Then (ends_transaction broken edits first last).transaction
  ended true edits first last = closed
  ended false [] first last = closed
  ended false (e ∷ edits) first last = closed

  in_open : (b : Transaction) (n : ℕ) (l : Option LiveLine) → said_by x ≡ l → Opened before (Some b) → Then (asked_in b n l).transaction
  in_open b n None says o = broke b n
  in_open b n (Some (live.Script line.Skip)) says o = broke b n
  in_open b n (Some (live.Script (line.Command c))) says o = kept b n (event.Command c) says o
  in_open b n (Some (live.Script line.Wait)) says o = broke b n
  in_open b n (Some (live.Script line.Print)) says o = broke b n
  in_open b n (Some (live.PrintField id)) says o = broke b n
  in_open b n (Some (live.WaitFor seconds)) says o = broke b n
  in_open b n (Some (live.Interrupt name)) says o = broke b n
  in_open b n (Some (live.Export format)) says o = broke b n
  in_open b n (Some live.Begin) says o = broke b n
  in_open b n (Some live.End) says o = ended b.broken b.edits b.first n

  begun_so : (n : ℕ) (b : Option Transaction) → said_by x ≡ Some live.Begin → b ≡ Some (new_transaction n) → Then b
  begun_so n b says is = subst (λ (o : Option Transaction). Then o) (sym is) (opened before [] x (new_transaction n) refl says refl)

  waited : (n : ℕ) (w : World) (held : Hold) (c : LineChoice) → BeginsWait n w held c → Then c.transaction
  waited n w held c (inl (none, is, free, done, shut)) = closed_so (before ++ x ∷ []) c.transaction shut
  waited n w held c (inr (some, is, on, done, shut)) = closed_so (before ++ x ∷ []) c.transaction shut

  outside : (m : Manner) (n : ℕ) (w : World) (now : ℕ) (l : Option LiveLine) (c : LineChoice) → said_by x ≡ l → AsksAlone m n w now l c → Then c.transaction
  outside m n w now None c says ((is, free, shut), done) = closed_so (before ++ x ∷ []) c.transaction shut
  outside m n w now (Some (live.Script line.Skip)) c says ((is, free, shut), done) = closed_so (before ++ x ∷ []) c.transaction shut
  outside m n w now (Some (live.Script (line.Command command))) c says (asks, free, done, shut) = closed_so (before ++ x ∷ []) c.transaction shut
  outside m n w now (Some (live.Script line.Wait)) c says begins = waited n w _ c begins
  outside m n w now (Some (live.Script line.Print)) c says ((is, free, shut), done) = closed_so (before ++ x ∷ []) c.transaction shut
  outside m n w now (Some (live.PrintField id)) c says ((is, free, shut), done) = closed_so (before ++ x ∷ []) c.transaction shut
  outside m n w now (Some (live.WaitFor seconds)) c says begins = waited n w _ c begins
  outside m n w now (Some (live.Interrupt name)) c says ((is, free, shut), done) = closed_so (before ++ x ∷ []) c.transaction shut
  outside m n w now (Some (live.Export format)) c says ((is, free, shut), done) = closed_so (before ++ x ∷ []) c.transaction shut
  outside m n w now (Some live.Begin) c says (is, free, done, open_now) = begun_so n c.transaction says open_now
  outside m n w now (Some live.End) c says ((is, free, shut), done) = closed_so (before ++ x ∷ []) c.transaction shut

  -- after one line more, by what was asked for of it
  pub one_more : (o : Option Transaction) (a : LinesAt) (w : World) (now : ℕ) (c : LineChoice) → AsksIn o a w now (said_by x) c → Opened before o → Then c.transaction
  one_more None a w now c asks o = outside a.manner (a.number + 1) w now (said_by x) c refl asks
  one_more (Some b) a w now c is o = subst (λ (d : LineChoice). Then d.transaction) (sym is) (in_open b (a.number + 1) (said_by x) refl o)

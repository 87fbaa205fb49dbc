-- Commands that are taken all or not at all are those of a transaction of the input, all of them and in its order.
use Rattle.std.specs.Prelude.{◌≡◌, ℕ, ◌+◌, List, ◌∷◌, ◌++◌, Option, Some, None, IfSome, length, map}
use Rattle.host_events.specs.declared.event.Event.{Event}
use Rattle.host_events.specs.declared.event.Event.TheVariants as event
use Rattle.arrivals.specs.Lines.{InputLine}
use Rattle.sheet_text.specs.declared.script.ScriptLine.TheVariants as line
use Rattle.live.specs.declared.live_line.LiveLine.{LiveLine}
use Rattle.live.specs.declared.live_line.LiveLine.TheVariants as live
use Rattle.live.specs.Arrivals.{said_by}
use Rattle.driver.specs.declared.action.Action.TheVariants as action
use Rattle.driver.specs.Items.{Item, RunStep, chose}
use Rattle.driver.specs.Place.{RunPlace, SinkRules, SourceRules, rules}
use Rattle.driver.specs.Steps.{Run}
use Rattle.line_agenda.specs.LinesAt.{LinesAt, coming}
use Rattle.line_agenda.specs.LinesRules.{lines_rules}

-- what a line says whose command this is
abbrev pub line_of_event : Event → Option LiveLine
line_of_event (event.Command c) = Some (live.Script (line.Command c))
line_of_event (event.Child name life e) = None

-- The lines that were to come are some, a `begin`, those that say these commands, an `end`, and others. The first command has the number of its line.
pub record IsOfTransaction (a : LinesAt) (first : ℕ) (edits : List Event) : Type 0 where
  pub front : List InputLine
  pub begins : InputLine
  pub given : List InputLine
  pub ends : InputLine
  pub are : IfSome (coming a) (λ lines. (rest : List InputLine) × (lines ≡ front ++ begins ∷ given ++ ends ∷ rest))
  pub number : first ≡ a.number + length front + 2
  pub said_first : said_by begins ≡ Some live.Begin
  pub say : map said_by given ≡ map line_of_event edits
  pub said_last : said_by ends ≡ Some live.End

-- so it is in every run that begins where no transaction is open, whatever the sources and the sink are
abbrev pub WholesAreTransactions : {C K : Type 0} → SourceRules C → SinkRules K → Type 0
WholesAreTransactions {C = C} {K = K} sources sink = (p q : RunPlace LinesAt C K) (todo left : List Item) (before after : List RunStep) (first : ℕ) (edits : List Event)
    → p.agenda.transaction ≡ None → Run (rules lines_rules sources sink) p todo (before ++ chose (action.Transaction first edits) ∷ after) left q → IsOfTransaction p.agenda first edits

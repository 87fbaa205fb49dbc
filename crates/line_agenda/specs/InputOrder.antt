-- The lines that were taken are those of the input, in its order, each once.
use Rattle.std.specs.Prelude.{◌≡◌, ◌+◌, List, ◌++◌, Some, IfSome, length}
use Rattle.arrivals.specs.Lines.{InputLine}
use Rattle.driver.specs.Items.{Item, RunStep}
use Rattle.driver.specs.Place.{RunPlace, SinkRules, SourceRules, rules}
use Rattle.driver.specs.Steps.{Run}
use Rattle.line_agenda.specs.LinesAt.{LinesAt, coming}
use Rattle.line_agenda.specs.LinesRules.{lines_rules}

-- From there to here these lines were taken: they are the first of those that were to come, and the others are still to come.
pub record TookInOrder (a b : LinesAt) : Type 0 where
  pub taken : List InputLine
  pub count : b.number ≡ a.number + length taken
  pub are : IfSome (coming a) (λ lines. (rest : List InputLine) × (coming b ≡ Some rest) × (lines ≡ taken ++ rest))

-- so it is in every run, whatever the sources and the sink are
abbrev pub LinesComeInOrder : {C K : Type 0} → SourceRules C → SinkRules K → Type 0
LinesComeInOrder {C = C} {K = K} sources sink = (p q : RunPlace LinesAt C K) (todo left : List Item) (steps : List RunStep)
    → Run (rules lines_rules sources sink) p todo steps left q → TookInOrder p.agenda q.agenda

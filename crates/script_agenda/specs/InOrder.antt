-- The lines that a run of a script took are the first of those that were to come, in order, each once.
use Rattle.std.specs.Prelude.{◌≡◌, ℕ, List, ◌++◌}
use Rattle.driver.specs.Items.{Item, RunStep}
use Rattle.driver.specs.Place.{RunPlace, SinkRules, SourceRules, rules}
use Rattle.driver.specs.Steps.{Run}
use Rattle.script_agenda.specs.ScriptAt.{ScriptAt}
use Rattle.script_agenda.specs.ScriptRules.{script_rules}

-- from there to here these lines were taken, and the others are left
pub record TookLines (a b : ScriptAt) : Type 0 where
  pub taken : List (List ℕ)
  pub are : a.lines ≡ taken ++ b.lines

-- so it is in every run, whatever the sources and the sink are
abbrev pub ScriptComesInOrder : {C K : Type 0} → SourceRules C → SinkRules K → Type 0
ScriptComesInOrder {C = C} {K = K} sources sink = (p q : RunPlace ScriptAt C K) (todo left : List Item) (steps : List RunStep)
    → Run (rules script_rules sources sink) p todo steps left q → TookLines p.agenda q.agenda

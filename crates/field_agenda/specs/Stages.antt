-- The end of an evaluation.
use Rattle.std.specs.Prelude.{List, [], ◌∷◌}
use Rattle.driver.specs.Items.{RunStep, ask}
use Rattle.driver.specs.Place.{RunPlace, SinkRules, SourceRules, rules}
use Rattle.driver.specs.Steps.{Run}
use Rattle.evaluation.specs.Programs.{Finds}
use Rattle.field_agenda.specs.declared.by_fields.ByFields.{ByFields}
use Rattle.field_agenda.specs.declared.stage.Stage.{Stage}
use Rattle.field_agenda.specs.declared.stage.Stage.TheVariants as stage
use Rattle.field_agenda.specs.FieldsRules.{fields_rules}

-- It came to its end: fields were evaluated, and that was counted; or none was, since one or a program isn't there.
abbrev pub IsEnded : Stage → Type 0
IsEnded stage.New = ⊥
IsEnded stage.Going = ⊥
IsEnded (stage.Counted end) = Unit {0}
IsEnded (stage.NoField id) = Unit {0}
IsEnded (stage.NoProgram name) = Unit {0}

-- A run of fields after which nothing is left to be done came to such an end.
abbrev pub FieldsComeToAnEnd : {P C K : Type 0} → (P → Finds) → SourceRules C → SinkRules K → Type 0
FieldsComeToAnEnd {P = P} {C = C} {K = K} finds sources sink = (p q : RunPlace (ByFields P) C K) (steps : List RunStep)
    → Run (rules (fields_rules finds) sources sink) p (ask ∷ []) steps [] q → IsEnded q.agenda.stage

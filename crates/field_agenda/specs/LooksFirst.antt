-- Fields and programs are looked for before anything is done.
use Rattle.std.specs.Prelude.{◌≡◌, ℕ, List, [], ◌∷◌, None}
use Rattle.session_engine.specs.World.{sheet_in}
use Rattle.driver.specs.Items.{Item, RunStep, ask}
use Rattle.driver.specs.Laws.{trace}
use Rattle.driver.specs.Place.{RunPlace, SinkRules, SourceRules, rules}
use Rattle.driver.specs.Steps.{Run}
use Rattle.evaluation.specs.Evaluation.{AreReady}
use Rattle.evaluation.specs.Meant.{missing_in}
use Rattle.evaluation.specs.Programs.{Finds}
use Rattle.field_agenda.specs.declared.by_fields.ByFields.{ByFields}
use Rattle.field_agenda.specs.declared.stage.Stage.{Stage}
use Rattle.field_agenda.specs.declared.stage.Stage.TheVariants as stage
use Rattle.field_agenda.specs.FieldsRules.{fields_rules}
use Rattle.field_agenda.specs.Looks.{LookFinds}

-- fields are asked, or they were
abbrev pub IsUnderWay : Stage → Type 0
IsUnderWay stage.New = ⊥
IsUnderWay stage.Going = Unit {0}
IsUnderWay (stage.Counted end) = Unit {0}
IsUnderWay (stage.NoField id) = ⊥
IsUnderWay (stage.NoProgram name) = ⊥

-- No event was taken, no child was called, the sources weren't watched, and the disk stayed; where no fault is to be printed or was, nothing was printed.
pub record DidNothing {A C K : Type 0} (p q : RunPlace A C K) (steps : List RunStep) (left : List Item) : Type 0 where
  pub none : trace steps ≡ []
  pub sources : q.sources ≡ p.sources
  pub disk : q.disk ≡ p.disk
  pub sink : left ≡ [] → q.sink ≡ p.sink

-- What a run of fields did by what it found: each field that is asked for is there, and each program that is needed was found; or one isn't, and nothing was
-- done; or it found nothing out, and nothing was done.
pub data LookedFirst {P C K : Type 0} (finds : P → Finds) (p q : RunPlace (ByFields P) C K) (steps : List RunStep) (left : List Item) : Type 0 where
  all_found : missing_in p.agenda.plan.which (sheet_in p.world).fields ≡ None → AreReady (finds p.agenda.programs) p.agenda.plan (sheet_in p.world) → IsUnderWay q.agenda.stage
      → LookedFirst finds p q steps left
  in_vain : (ids : List ℕ) (how : Stage) → (IsUnderWay how → ⊥) → LookFinds (finds p.agenda.programs) p.agenda.plan (sheet_in p.world) ids how → q.agenda.stage ≡ how
      → DidNothing p q steps left → LookedFirst finds p q steps left
  not_looked : q.agenda.stage ≡ stage.New → DidNothing p q steps left → LookedFirst finds p q steps left

-- so it is in every run from the beginning
abbrev pub FieldsAreLookedFor : {P C K : Type 0} → (P → Finds) → SourceRules C → SinkRules K → Type 0
FieldsAreLookedFor {P = P} {C = C} {K = K} finds sources sink = (p q : RunPlace (ByFields P) C K) (steps : List RunStep) (left : List Item)
    → p.agenda.stage ≡ stage.New → Run (rules (fields_rules finds) sources sink) p (ask ∷ []) steps left q → LookedFirst finds p q steps left

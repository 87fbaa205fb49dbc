-- What an agenda of fields looks for before the first of them is asked.
use Rattle.std.specs.Prelude.{◌≡◌, ℕ, List, Some, None, Result, Ok, Err}
use Rattle.worksheet.specs.Contents.{Contents}
use Rattle.session_engine.specs.World.{World, sheet_in}
use Rattle.offline_programs.specs.declared.fault.RunFault.{RunFault}
use Rattle.offline_programs.specs.declared.fault.RunFault.TheVariants as fault
use Rattle.evaluation.specs.Evaluation.{AreReady, IsUnfound}
use Rattle.evaluation.specs.Meant.{missing_in}
use Rattle.evaluation.specs.Programs.{Finds}
use Rattle.evaluation.specs.Rounds.{asking_order}
use Rattle.evaluation.specs.declared.plan.Plan.{Plan}
use Rattle.driver.specs.declared.action.Action.{Action}
use Rattle.driver.specs.declared.action.Action.TheVariants as action
use Rattle.field_agenda.specs.declared.by_fields.ByFields.{ByFields}
use Rattle.field_agenda.specs.declared.stage.Stage.{Stage}
use Rattle.field_agenda.specs.declared.stage.Stage.TheVariants as stage
use Rattle.field_agenda.specs.Standing.{found}

-- What was found in a worksheet: the fields that are evaluated, where each is there that is asked for, and so is the program of each session that has
-- one of them; or why none is.
pub data LookFinds (finds : Finds) (plan : Plan) (sheet : Contents) (ids : List ℕ) : Stage → Type 0 where
  no_field : (id : ℕ) → missing_in plan.which sheet.fields ≡ Some id → LookFinds finds plan sheet ids (stage.NoField id)
  no_program : (name : List ℕ) → missing_in plan.which sheet.fields ≡ None → IsUnfound finds plan sheet name → LookFinds finds plan sheet ids (stage.NoProgram name)
  all_there : missing_in plan.which sheet.fields ≡ None → AreReady finds plan sheet → ids ≡ asking_order plan sheet → LookFinds finds plan sheet ids stage.Going

-- It looks, or there was no memory for the numbers of the fields.
pub data LooksFor {P : Type 0} (finds : Finds) (a : ByFields P) (w : World) (r : Result Action RunFault) (b : ByFields P) : Type 0 where
  looked : (ids : List ℕ) (how : Stage) → LookFinds finds a.plan (sheet_in w) ids how → r ≡ Ok action.Nothing → b ≡ found a ids how → LooksFor finds a w r b
  unlooked : r ≡ Err fault.OutOfMemory → b ≡ a → LooksFor finds a w r b

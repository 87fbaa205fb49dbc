-- Fields of a copy, evaluated by the steps of a driver with the agenda of `eval`: nothing is printed, and what is kept is which lines were asked and whose
-- time was over. (docs/use/CHECK.md.)
use Rattle.std.specs.Prelude.{◌≡◌, ℕ, Bool, true, false, None, List, [], ◌∷◌, Option}
use Rattle.session_engine.specs.World.{World, sheet_in}
use Rattle.session_engine.specs.Host.{HostView, IsHost}
use Rattle.host_events.specs.declared.outcome.HostFault.TheVariants as hosts
use Rattle.child_edge.specs.Faithful.{At, at}
use Rattle.offline_programs.specs.declared.fault.RunFault.{RunFault}
use Rattle.offline_programs.specs.declared.fault.RunFault.TheVariants as fault
use Rattle.driver.specs.Items.{RunStep, ask, halt}
use Rattle.driver.specs.Place.{RunPlace, Rules, rules, source_rules}
use Rattle.driver.specs.Runs.{Stands}
use Rattle.driver.specs.Steps.{Run}
use Rattle.evaluation.specs.Meant.{missing_in}
use Rattle.evaluation.specs.declared.plan.Plan.{Plan}
use Rattle.evaluation.specs.declared.plan.Spared.TheVariants as spared
use Rattle.evaluation.specs.declared.plan.Which.TheVariants as which
use Rattle.field_agenda.specs.FieldsRules.{fields_rules}
use Rattle.field_agenda.specs.LooksFirst.{IsUnderWay}
use Rattle.field_agenda.specs.Stages.{IsEnded}
use Rattle.field_agenda.specs.Standing.{first_fields}
use Rattle.field_agenda.specs.declared.by_fields.ByFields.{ByFields}
use Rattle.sheet_check.specs.Evaluated.{Way}
use Rattle.sheet_check.specs.Marks.{mark_rules, marks_of}
use Rattle.sheet_check.specs.declared.marks.AllThere.{AllThere}
use Rattle.sheet_check.specs.declared.marks.Mark.{Mark}
use Rattle.sheet_check.specs.declared.marks.Marks.{Marks}

-- all of these fields, up to the end: a field after one that shows no answer is asked, too
abbrev pub checking_plan : List ℕ → Option ℕ → ℕ → Plan
checking_plan ids limit jobs = record { which = which.Named ids; spared = spared.Nothing; strict = false; at_errors = false; limit = limit; keep_going = true; jobs = jobs }

-- this field alone
abbrev pub one_plan : {C : Type 0} → Way C → ℕ → Plan
one_plan o id = checking_plan (id ∷ []) o.limit 1

-- No program is looked for: each counts as there.
abbrev pub counts_as_there : AllThere → List ℕ → Bool → Type 0
counts_as_there programs name there = there ≡ true

-- By which rules fields are evaluated on a copy: those of an agenda of fields, with no program that is looked for.
abbrev pub copy_rules : {C : Type 0} → Way C → Rules (ByFields AllThere) C Marks
copy_rules o = rules (fields_rules counts_as_there) (source_rules o.after o.wakes o.clock) mark_rules

-- where that stands: how often the agenda was asked, the agenda, the marks that were kept, and where events led to
abbrev pub copy_place : {C : Type 0} → ℕ → ByFields AllThere → Marks → At C → RunPlace (ByFields AllThere) C Marks
copy_place n a k s = record { asked = n; agenda = a; world = s.world; disk = s.disk; sources = s.children; sink = k }

-- where it begins
abbrev pub copy_begins : {C : Type 0} → Plan → AllThere → At C → RunPlace (ByFields AllThere) C Marks
copy_begins plan programs s = copy_place 0 (first_fields plan programs) (record { kept = [] }) s

-- The fields of a plan were evaluated up to the end: where each is there, exactly these were asked and counted. These are the marks of that.
pub record DrivenToEnd {C : Type 0} (o : Way C) (plan : Plan) (s : At C) (marks : List Mark) (t : At C) : Type 0 where
  pub programs : AllThere
  pub steps : List RunStep
  pub asked : ℕ
  pub agenda : ByFields AllThere
  pub ran : Run (copy_rules o) (copy_begins plan programs s) (ask ∷ []) steps [] (copy_place asked agenda (record { kept = marks }) t)
  pub marks_are : marks ≡ marks_of steps
  pub ended : IsEnded agenda.stage
  pub counted : missing_in plan.which (sheet_in s.world).fields ≡ None → IsUnderWay agenda.stage

-- Their evaluation broke off with this fault: the steps up to it.
pub record DrivenUpTo {C : Type 0} (o : Way C) (plan : Plan) (s : At C) (h : HostView) (c : C) (why : RunFault) : Type 0 where
  pub programs : AllThere
  pub steps : List RunStep
  pub asked : ℕ
  pub agenda : ByFields AllThere
  pub kept : Marks
  pub world : World
  pub ran : Run (copy_rules o) (copy_begins plan programs s) (ask ∷ []) steps (halt why ∷ []) (copy_place asked agenda kept (at world c h.store.disk))
  pub stands : Stands h world

-- The same, or there was no memory for the numbers of the fields, and nothing was done.
pub data DriveBroke {C : Type 0} (o : Way C) (plan : Plan) (s : At C) (h : HostView) (c : C) (why : RunFault) : Type 0 where
  unplanned : why ≡ fault.OutOfMemory → c ≡ s.children → IsHost h s.world → DriveBroke o plan s h c why
  broke_off : DrivenUpTo o plan s h c why → DriveBroke o plan s h c why

-- A fault that a check may have where an evaluation broke off: one of the host, but none of its disk, which lies in memory; a lack of memory; that the sources
-- can't be watched; or that something can't be counted any more.
abbrev pub IsOfEvaluation : RunFault → Type 0
IsOfEvaluation (fault.Host hosts.Disk) = ⊥
IsOfEvaluation (fault.Host hosts.OutOfMemory) = Unit {0}
IsOfEvaluation (fault.Host hosts.JournalFull) = Unit {0}
IsOfEvaluation (fault.Host hosts.Closed) = Unit {0}
IsOfEvaluation fault.OutOfMemory = Unit {0}
IsOfEvaluation fault.Input = Unit {0}
IsOfEvaluation fault.InputTooLong = Unit {0}
IsOfEvaluation fault.Output = ⊥
IsOfEvaluation (fault.Open why) = ⊥
IsOfEvaluation fault.InUse = ⊥
IsOfEvaluation fault.SecondFile = ⊥

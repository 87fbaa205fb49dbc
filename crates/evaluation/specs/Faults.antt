-- The faults of an evaluation, as they are printed.
use Rattle.std.specs.Prelude.{ℕ, List, [], ◌∷◌, ◌++◌, codes}
use Rattle.std.specs.Fmt.{decimal}
use Rattle.offline_programs.specs.Faults.{fault_text}
use Rattle.evaluation.specs.declared.fault.EvalFault.{EvalFault}
use Rattle.evaluation.specs.declared.fault.EvalFault.TheVariants as evals

-- the line that reports that the program of this session isn't there
abbrev pub no_program_text : List ℕ → List ℕ
no_program_text name = codes "fault 44 NoProgram " ++ name ++ 10 ∷ []

-- the line that reports a fault
abbrev pub eval_fault_text : EvalFault → List ℕ
eval_fault_text (evals.NoField id) = codes "fault 37 NoField " ++ decimal id ++ 10 ∷ []
eval_fault_text (evals.NoProgram name) = no_program_text name
eval_fault_text (evals.Run why) = fault_text why

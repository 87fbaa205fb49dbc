use Rattle.std.proofs.Common.{◌≡◌, Result, Ok, IfOk, subst, sym}
use Rattle.program_endings.proofs.script_program.run_script.Goals as goal

-- what holds of the files that were opened
of-files : {A E : Type 0} (P : A → Type 0) (files : Result A E) (disk : A) → files ≡ Ok disk → P disk → IfOk files P
of-files P files disk is p = subst (λ opened. IfOk opened P) (sym is) p

pub returns-in-Ok-clause-files : goal.returns-in-Ok-clause-files
returns-in-Ok-clause-files g c = of-files _ c.args.given.files c.in-Ok.disk c.in-Ok.is c.run_on.ensures

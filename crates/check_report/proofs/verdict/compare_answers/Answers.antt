use Rattle.std.proofs.Common.{Some, subst, sym}
use Rattle.check_report.specs.Verdicts.{Compared, new}
use Rattle.check_report.specs.declared.verdict.Verdict.TheVariants as verdict
use Rattle.check_report.proofs.verdict.compare_answers.Goals as goal

pub returns-in-None : goal.returns-in-None
returns-in-None c = subst (λ shown. Compared shown (Some c.args.came.now) verdict.New) (sym c.in-None.is) (new c.args.came.now)

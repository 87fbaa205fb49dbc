use Rattle.std.proofs.Common.{subst, sym}
use Rattle.check_report.specs.Verdicts.{Compared, unanswered}
use Rattle.check_report.specs.declared.verdict.Verdict.TheVariants as verdict
use Rattle.check_report.proofs.verdict.compare.Goals as goal

pub returns-in-None : goal.returns-in-None
returns-in-None c = subst (λ came. Compared c.args.shown.now came verdict.Unanswered) (sym c.in-None.is) (unanswered c.args.shown.now)

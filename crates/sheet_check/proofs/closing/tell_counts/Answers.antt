use Rattle.std.proofs.Common.{◌∙◌, Option, Some, ap, inl, inr, refl, subst, sym}
use Rattle.std.specs.Prelude.{Ok, Err, Result}
use Rattle.offline_programs.specs.declared.fault.RunFault.{RunFault}
use Rattle.check_report.specs.declared.verdict.VerdictCounts.{VerdictCounts}
use Rattle.sheet_check.specs.inside.Checking.{CountsWritten}
use Rattle.sheet_check.proofs.closing.tell_counts.Goals as goal

pub returns-in-Ok-tell_closing-clause-counts : goal.returns-in-Ok-tell_closing-clause-counts
returns-in-Ok-tell_closing-clause-counts g c =
    subst (λ (x : Option (Result VerdictCounts RunFault)). CountsWritten c.args.format (g.W.Write.contents c.args.writer.now)
    (g.W.Write.contents c.tell_closing.new.writer) x (Ok c.in-Ok.counts)) (sym (c.in-Some.is ∙ ap Some c.in-Ok.is))
    (inl (refl, c.in-Ok-tell_closing.ensures.ok))

pub returns-in-Err-tell_closing-clause-counts : goal.returns-in-Err-tell_closing-clause-counts
returns-in-Err-tell_closing-clause-counts g c =
    subst (λ (x : Option (Result VerdictCounts RunFault)). CountsWritten c.args.format (g.W.Write.contents c.args.writer.now)
    (g.W.Write.contents c.tell_closing.new.writer) x (Err c.in-Err-tell_closing.fault)) (sym (c.in-Some.is ∙ ap Some c.in-Ok.is))
    (inr (ap Err c.in-Err-tell_closing.ensures.err))

pub returns-in-Err-clause-counts : goal.returns-in-Err-clause-counts
returns-in-Err-clause-counts g c =
    subst (λ (x : Option (Result VerdictCounts RunFault)). CountsWritten c.args.format (g.W.Write.contents c.args.writer.now) (g.W.Write.contents c.args.writer.now) x
    (Err c.in-Err.fault)) (sym (c.in-Some.is ∙ ap Some c.in-Err.is)) (refl, refl)

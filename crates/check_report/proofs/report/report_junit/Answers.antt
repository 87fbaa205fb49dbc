use Rattle.std.proofs.Common.{subst}
use Rattle.std.specs.Io.KnownBytes.{Appends}
use Rattle.check_report.specs.Points.{point}
use Rattle.check_report.specs.Junit.{junit_case}
use Rattle.check_report.proofs.report.report_junit.Goals as goal

pub returns-in-Ok-clause-ok : goal.returns-in-Ok-clause-ok
returns-in-Ok-clause-ok g c =
    subst
    (λ text. Appends (g.W.Write.contents c.args.writer.now) (g.W.Write.contents c.write_as_case.new.writer) (junit_case (point c.args.case.now.field.now.id c.args.case.now.field.now.session c.args.case.now.field.now.input c.args.case.now.verdict c.args.case.now.took text)))
    c.in-Some.ensures
    (subst
    (λ text. Appends (g.W.Write.contents c.args.writer.now) (g.W.Write.contents c.write_as_case.new.writer) (junit_case (point c.args.case.now.field.now.id c.args.case.now.field.now.session c.args.case.now.field.now.input c.args.case.now.verdict c.args.case.now.took text)))
    c.as_slice.ensures.value
    c.in-Ok.ensures)

use Rattle.std.proofs.Common.{◌++◌, subst}
use Rattle.std.proofs.KnownBytes.{Appends-trans}
use Rattle.std.specs.Io.KnownBytes.{Appends}
use Rattle.check_report.specs.Junit.{case_start, result_end, result_start}
use Rattle.check_report.specs.Xml.{xml_text}
use Rattle.check_report.proofs.junit.write_case.Goals as goal

pub returns : goal.returns
returns g c =
    let field = c.args.case.now.field.now in
    let took = c.args.case.now.took in
    let verdict = c.args.case.now.verdict in
    let reported = c.args.reported.now in
    let a = g.W.Write.contents c.args.out.now in
    let b = g.W.Write.contents c.write_start.new.out in
    let d = g.W.Write.contents c.write_result_start.new.out in
    let e = g.W.Write.contents c.write_text.new.out in
    let f = g.W.Write.contents c.write_result_end.new.out in
    let named = subst (λ session. Appends a b (case_start field.id session c.as_bytes.result.now took)) c.as_slice.ensures.bytes c.in_ok-write_start.ensures in
    let begun = subst (λ input. Appends a b (case_start field.id field.session input took)) c.as_bytes.ensures named in
    let start = case_start field.id field.session field.input took in
    let opened = Appends-trans a b d start (result_start verdict) begun c.in_ok-write_result_start.ensures in
    let within = Appends-trans a d e (start ++ result_start verdict) (xml_text reported) opened c.in_ok-write_text.ensures in
    Appends-trans a e f (start ++ result_start verdict ++ xml_text reported) (result_end verdict) within c.in_ok-write_result_end.ensures

use Rattle.std.proofs.Common.{◌≡◌, ◌+◌, ap, subst, arith}
use Rattle.std.proofs.lemmas.Result.{err_from_is_err_and}
use Rattle.std.specs.Io.KnownBytes.{Appends}
use Rattle.tellings.specs.Json.{in_json, reply_json}
use Rattle.std.specs.Prelude.{true}
use Rattle.tellings.proofs.Cut.{cut_line, cut_same}
use Rattle.tellings.specs.inside.Lines.{json_in_lines}
use Rattle.tellings.proofs.Voices.{cut_outcome, one_outcome}
use Rattle.tellings.proofs.in_json.write_outcomes.Goals as goal

pub loop-outcome-preserved : goal.loop-outcome-preserved
loop-outcome-preserved g c =
    let a = g.W.Write.contents c.args.writer.now in
    let b = g.W.Write.contents c.loop-outcome.writer in
    let e = g.W.Write.contents c.write_reply.new.writer in
    let on = c.loop-outcome.invariant.0 in
    let next : c.loop-outcome.line + 1 ≡ c.args.first + (c.loop-outcome.outcome-index + 1) = omega (arith, on) in (
      next,
      λ sheet.
          one_outcome in_json sheet c.args.first c.args.outcomes.now c.loop-outcome.outcome-index c.outcome-item.result a b e
          c.loop-outcome-test.true c.outcome-item.is (c.loop-outcome.invariant.1 sheet)
          (subst (λ n. Appends b e (reply_json n c.outcome-item.result.reply)) on c.in_ok-write_reply.ensures.wrote),
    )

pub returns-in_err-write_reply-clause-cut : goal.returns-in_err-write_reply-clause-cut
returns-in_err-write_reply-clause-cut g c = λ sheet. let p = err_from_is_err_and c.from_residual.result c.from_residual.ensures.1 in rw (p.1, p.2) (
    let a = g.W.Write.contents c.args.writer.now in
    let b = g.W.Write.contents c.loop-outcome.writer in
    let e = g.W.Write.contents c.write_reply.new.writer in
    cut_outcome in_json sheet c.args.first c.args.outcomes.now c.loop-outcome.outcome-index c.outcome-item.result a b e _ json_in_lines c.loop-outcome-test.true c.outcome-item.is (c.loop-outcome.invariant.1 sheet)
    (cut_same true b e _ _ _ (ap (λ n. reply_json n c.outcome-item.result.reply) c.loop-outcome.invariant.0)
    (cut_line g.W.Write.contents c.loop-outcome.writer c.write_reply.new.writer _ _ c.in_err-write_reply.ensures.unwritten c.in_err-write_reply.ensures.wrote)))

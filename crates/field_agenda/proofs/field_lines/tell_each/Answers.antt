use Rattle.std.proofs.Common.{◌≡◌, ◌+◌, ap, subst, arith}
use Rattle.std.proofs.lemmas.Result.{err_from_is_err_and}
use Rattle.std.specs.Io.KnownBytes.{Appends}
use Rattle.tellings.proofs.Cut.{cut_same}
use Rattle.tellings.proofs.Voices.{cut_outcome, one_outcome}
use Rattle.field_agenda.specs.FieldLines.{by_field_lines, line_of_field}
use Rattle.field_agenda.specs.inside.Lines.{fields_keep_to_lines}
use Rattle.field_agenda.proofs.field_lines.tell_each.Goals as goal

pub loop-outcome-preserved : goal.loop-outcome-preserved
loop-outcome-preserved g c =
    let a = g.W.Write.contents c.args.writer.now in
    let b = g.W.Write.contents c.loop-outcome.writer in
    let e = g.W.Write.contents c.tell_one.new.writer in
    let sheet = c.args.sheet.now.contents in
    let on = c.loop-outcome.invariant.0 in
    let next : c.loop-outcome.field + 1 ≡ c.args.first + (c.loop-outcome.outcome-index + 1) = omega (arith, on) in (
      next,
      one_outcome (by_field_lines g.T.Tells.voice) sheet c.args.first c.args.outcomes.now c.loop-outcome.outcome-index c.outcome-item.result a b e
          c.loop-outcome-test.true c.outcome-item.is c.loop-outcome.invariant.1
          (subst (λ n. Appends b e (g.T.Tells.voice.reply (line_of_field n) sheet c.outcome-item.result.reply)) on c.in_ok-tell_one.ensures.ok),
    )

pub returns-in_err-tell_one-clause-cut : goal.returns-in_err-tell_one-clause-cut
returns-in_err-tell_one-clause-cut g c = let p = err_from_is_err_and c.from_residual.result c.from_residual.ensures.1 in rw (p.1, p.2) (
    let a = g.W.Write.contents c.args.writer.now in
    let b = g.W.Write.contents c.loop-outcome.writer in
    let e = g.W.Write.contents c.tell_one.new.writer in
    let sheet = c.args.sheet.now.contents in
    cut_outcome (by_field_lines g.T.Tells.voice) sheet c.args.first c.args.outcomes.now c.loop-outcome.outcome-index c.outcome-item.result a b e _ (fields_keep_to_lines g.T.Tells.voice g.T.Tells.to_lines) c.loop-outcome-test.true c.outcome-item.is c.loop-outcome.invariant.1
    (cut_same g.T.Tells.voice.in_lines b e _ _ _ (ap (λ n. g.T.Tells.voice.reply (line_of_field n) sheet c.outcome-item.result.reply) c.loop-outcome.invariant.0) c.in_err-tell_one.ensures.cut))

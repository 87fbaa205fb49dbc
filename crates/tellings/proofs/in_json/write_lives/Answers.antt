use Rattle.std.proofs.lemmas.Result.{err_from_is_err_and}
use Rattle.tellings.specs.Json.{came_json}
use Rattle.std.specs.Prelude.{true}
use Rattle.tellings.proofs.Cut.{cut_of_each}
use Rattle.tellings.specs.inside.Lines.{came_in_lines}
use Rattle.tellings.proofs.Voices.{came_on}
use Rattle.tellings.proofs.in_json.write_lives.Goals as goal

pub loop-reply-preserved : goal.loop-reply-preserved
loop-reply-preserved g c = λ w h.
    came_on (came_json w) c.args.replies.now c.loop-reply.reply-index c.reply-item.result (g.W.Write.contents c.args.writer.now)
    (g.W.Write.contents c.loop-reply.writer) (g.W.Write.contents c.write_came.new.writer)
    c.loop-reply-test.true c.reply-item.is (c.loop-reply.invariant w h) (c.in_ok-write_came.ensures.ok w h)

pub returns-in_err-write_came-clause-cut : goal.returns-in_err-write_came-clause-cut
returns-in_err-write_came-clause-cut g c = λ w h. let p = err_from_is_err_and c.from_residual.result c.from_residual.ensures.1 in rw (p.1, p.2)
    (cut_of_each true (came_json w) c.args.replies.now c.loop-reply.reply-index c.reply-item.result (g.W.Write.contents c.args.writer.now)
    (g.W.Write.contents c.loop-reply.writer) (g.W.Write.contents c.write_came.new.writer) _ (λ _. came_in_lines w)
    c.loop-reply-test.true c.reply-item.is (c.loop-reply.invariant w h) (c.in_err-write_came.ensures.cut w h))

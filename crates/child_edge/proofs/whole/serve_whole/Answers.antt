use Rattle.child_edge.proofs.Edits.{fails_whole, serves_whole}
use Rattle.child_edge.proofs.whole.serve_whole.Goals as goal

pub returns-in-Ok-clause-ok : goal.returns-in-Ok-clause-ok
returns-in-Ok-clause-ok g c = λ w h.
    serves_whole w c.args.host.now c.play.new.host c.play.ensures.before c.play.ensures.after h c.play.ensures.same c.args.edits c.play.ensures.edits c.in-Ok.whole (c.in-Ok.ensures.made w h)

pub returns-in-Err-clause-err : goal.returns-in-Err-clause-err
returns-in-Err-clause-err g c = λ w h.
    fails_whole w c.args.host.now c.play.new.host c.play.ensures.before c.play.ensures.after h c.play.ensures.same c.args.edits c.in-Err.fault (c.in-Err.ensures.halts w h)

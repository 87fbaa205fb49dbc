use Rattle.child_edge.proofs.Faulting.{stopped_if}
use Rattle.child_edge.proofs.serving.step.Goals as goal

pub returns-clause-err : goal.returns-clause-err
returns-clause-err g c = λ w h. stopped_if c.step.result w c.args.event c.args.host.now c.step.new.self h (c.step.ensures.failed w h) c.step.ensures.same c.step.ensures.closes

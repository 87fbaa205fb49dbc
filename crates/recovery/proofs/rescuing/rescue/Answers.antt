use Rattle.std.proofs.Common.{sym, subst, IsTrue}
use Rattle.std.specs.Prelude.{IfOk}
use Rattle.disk_model.specs.Disk.{Image}
use Rattle.disk_model.specs.inside.Moments.{looks_on}
use Rattle.recovery.specs.inside.Rescuing.{FindsRescued}
use Rattle.recovery.proofs.Rescues.{passing_header}
use Rattle.recovery.proofs.rescuing.rescue.Goals as goal

pub returns-in-Ok-clause-looks : goal.returns-in-Ok-clause-looks
returns-in-Ok-clause-looks g c = λ model.
    let model1 = subst IsTrue (sym c.in-Ok.ensures.same.keeps_model) model in
    looks_on _ _ _ (c.in-Ok.ensures.looks model) (c.take_front.ensures.looks model1)

pub returns-in-Ok-clause-found : goal.returns-in-Ok-clause-found
returns-in-Ok-clause-found g c = λ model.
    let model1 = subst IsTrue (sym c.in-Ok.ensures.same.keeps_model) model in
    let found = c.in-Ok.ensures.found model in
    subst (λ (i : Image). IfOk c.take_front.result (FindsRescued i)) (c.in-Ok.ensures.looks model).content (c.take_front.ensures.found model1 found.0 found.2)

pub returns-in-Ok-clause-fault : goal.returns-in-Ok-clause-fault
returns-in-Ok-clause-fault g c = λ model. passing_header _ c.take_front.result c.take_front.ensures.cause

use Rattle.disk_model.specs.Disk.{bytes_on}
use Rattle.journal.proofs.Loads.{damage_tells, front_stands, header_tells, kept}
use Rattle.journal.proofs.Readings.{unfailed}
use Rattle.journal.proofs.opening.survey.Goals as goal

pub returns-in-Err-clause-fault : goal.returns-in-Err-clause-fault
returns-in-Err-clause-fault g c = λ model. header_tells (bytes_on (g.D.Disk.view c.args.disk.now)) c.in-Err.cause (c.in-Err.ensures.fault model)

pub returns-then-stop-clause-fault : goal.returns-then-stop-clause-fault
returns-then-stop-clause-fault g c = λ model.
    let front = c.in-Ok.ensures.front model in
    damage_tells (bytes_on (g.D.Disk.view c.args.disk.now)) front.0 _ _ c.if-stop.true front.1 front.2

pub returns-then-stop-clause-reads : goal.returns-then-stop-clause-reads
returns-then-stop-clause-reads g c = unfailed _ _ _ (λ wrong. cc) c.in-Ok.ensures.reads

pub returns-clause-end : goal.returns-clause-end
returns-clause-end g c = λ model.
    let i = bytes_on (g.D.Disk.view c.args.disk.now) in
    let front = c.in-Ok.ensures.front model in
    let durable = c.in-Ok.ensures.durable model in
    let stands = front_stands i front.0 _ c.if-stop.false front.1 in
    let looks = c.in-Ok.ensures.reads.looks model in
    (front.0, stands, kept (g.D.Disk.view c.args.disk.now).history _ _ front.0 looks.content stands front.2 durable.first durable.active)

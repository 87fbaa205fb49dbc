use Rattle.std.proofs.Common.{subst}
use Rattle.disk_model.specs.Disk.{Image, area_of, bytes_on}
use Rattle.journal.specs.Front.{HasFront}
use Rattle.journal.specs.Limits.{longest_payload}
use Rattle.journal.proofs.Loads.{durable_on, front_of_active, passing_tells}
use Rattle.journal.proofs.Readings.{keeps, reads_on}
use Rattle.journal.proofs.opening.survey_front.Goals as goal

pub returns-in-Ok-walk_gates-clause-reads : goal.returns-in-Ok-walk_gates-clause-reads
returns-in-Ok-walk_gates-clause-reads g c = reads_on ⊥ _ _ _ c.in-Ok.ensures.reads c.in-Ok-walk_gates.ensures.reads

pub returns-in-Err-walk_gates-clause-reads : goal.returns-in-Err-walk_gates-clause-reads
returns-in-Err-walk_gates-clause-reads g c = reads_on _ _ _ _ c.in-Ok.ensures.reads c.in-Err-walk_gates.ensures.reads

pub returns-in-Ok-walk_gates-clause-front : goal.returns-in-Ok-walk_gates-clause-front
returns-in-Ok-walk_gates-clause-front g c = λ model.
    let i = bytes_on (g.D.Disk.view c.args.disk.now) in
    let before = c.in-Ok.ensures.reads in
    let found = c.in-Ok.ensures.found model in
    let walked = c.in-Ok-walk_gates.ensures.front (keeps ⊥ _ _ before model) in
    let front = subst (λ (j : Image). HasFront longest_payload (area_of c.in-Ok.window.area j) walked.0 c.in-Ok-walk_gates.stop.damaged) (before.looks model).content walked.1 in
    (walked.0, front_of_active c.in-Ok.window.area i walked.0 c.in-Ok-walk_gates.stop.damaged found.active.named found.headed front, walked.2)

pub returns-in-Ok-walk_gates-clause-durable : goal.returns-in-Ok-walk_gates-clause-durable
returns-in-Ok-walk_gates-clause-durable g c = λ model.
    let found = c.in-Ok.ensures.found model in
    let looks = c.walk_gates.ensures.reads.looks (keeps ⊥ _ _ c.in-Ok.ensures.reads model) in
    durable_on c.in-Ok.window.area (bytes_on (g.D.Disk.view c.args.disk.now)) _ _ looks found.active.named found.first found.durable

pub returns-in-Err-walk_gates-clause-fault : goal.returns-in-Err-walk_gates-clause-fault
returns-in-Err-walk_gates-clause-fault g c = λ model. passing_tells (bytes_on (g.D.Disk.view c.args.disk.now)) c.in-Err-walk_gates.cause c.in-Err-walk_gates.ensures.cause

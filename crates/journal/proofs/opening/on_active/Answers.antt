use Rattle.std.proofs.Common.{◌≡◌, ◌∙◌, arith}
use Rattle.disk_model.specs.Disk.{bytes_on}
use Rattle.journal.specs.Area.{names_second}
use Rattle.journal.proofs.Loads.{leaves_on, names_other, on_second}
use Rattle.journal.proofs.Readings.{keeps, reads_on}
use Rattle.journal.proofs.opening.on_active.Goals as goal

pub returns-in-Ok-durable-clause-reads : goal.returns-in-Ok-durable-clause-reads
returns-in-Ok-durable-clause-reads g c = reads_on ⊥ _ _ _ c.in-Ok.ensures.reads c.in-Ok-durable.ensures.reads

pub returns-clause-reads : goal.returns-clause-reads
returns-clause-reads g c = reads_on _ _ _ _ c.in-Ok.ensures.reads c.in-Err-durable.ensures.reads

pub returns-in-Ok-durable-clause-found : goal.returns-in-Ok-durable-clause-found
returns-in-Ok-durable-clause-found g c = λ model.
    let i = bytes_on (g.D.Disk.view c.args.disk.now) in
    let before = c.in-Ok.ensures.reads in
    let model1 = keeps ⊥ _ _ before model in
    let header = c.in-Ok.ensures.header model in
    let is : c.in-Ok.found.1 ≡ names_second = omega (arith, c.if-selector-ne-NAMES_SECOND.false) in
    let second = c.in-Ok-durable.ensures in
    let looks = second.reads.looks model1 in
    on_second c.in-Ok-durable.second i (bytes_on (g.D.Disk.view c.durable.new.disk)) _ second.area (names_other i (header.1 ∙ is)) header.0 (before.looks model).content (second.header model1).0 (second.shows model1)
    (leaves_on (λ k. k.first ≡ i.first) _ _ looks (c.in-Ok.ensures.durable model)) (second.durable model1)

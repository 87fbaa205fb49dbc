use Rattle.std.proofs.Common.{◌≡◌, refl}
use Rattle.disk_model.specs.Disk.{area_of, bytes_on}
use Rattle.disk_model.specs.inside.Moments.{looks_on, still, syncs_look}
use Rattle.journal.proofs.Loads.{leaves_on}
use Rattle.journal.proofs.Readings.{looked_ill, looked_well, reads_on}
use Rattle.journal.proofs.opening.durable.Goals as goal

pub returns-in-Err-len-clause-reads : goal.returns-in-Err-len-clause-reads
returns-in-Err-len-clause-reads g c =
    let synced = looked_well _ _ _ c.sync.ensures.called c.in_default.ensures.called.cause (λ model. syncs_look _ _ _ _ (c.sync.ensures.syncs model)) in
    reads_on _ _ _ _ synced (looked_ill _ _ _ _ refl c.len.ensures.called c.in-Err-len.ensures.called.cause c.len.ensures.looks)

pub returns-in-Ok-selector_of-clause-reads : goal.returns-in-Ok-selector_of-clause-reads
returns-in-Ok-selector_of-clause-reads g c =
    let synced = looked_well _ _ _ c.sync.ensures.called c.in_default.ensures.called.cause (λ model. syncs_look _ _ _ _ (c.sync.ensures.syncs model)) in
    let reported = looked_well _ _ _ c.len.ensures.called c.in-Ok.ensures.called.cause c.len.ensures.looks in
    reads_on ⊥ _ _ _ (reads_on ⊥ _ _ _ synced reported) c.in-Ok-selector_of.ensures.reads

pub returns-in-Err-selector_of-clause-reads : goal.returns-in-Err-selector_of-clause-reads
returns-in-Err-selector_of-clause-reads g c =
    let synced = looked_well _ _ _ c.sync.ensures.called c.in_default.ensures.called.cause (λ model. syncs_look _ _ _ _ (c.sync.ensures.syncs model)) in
    let reported = looked_well _ _ _ c.len.ensures.called c.in-Ok.ensures.called.cause c.len.ensures.looks in
    reads_on _ _ _ _ (reads_on ⊥ _ _ _ synced reported) c.in-Err-selector_of.ensures.reads

pub returns-in-Ok-selector_of-clause-durable : goal.returns-in-Ok-selector_of-clause-durable
returns-in-Ok-selector_of-clause-durable g c = λ model.
    let model1 = still _ _ _ c.sync.ensures.called model in
    let model2 = still _ _ _ c.len.ensures.called model1 in
    let area = c.args.area in
    leaves_on (λ i. area_of area i ≡ area_of area (bytes_on (g.D.Disk.view c.args.disk.now))) _ _ (looks_on _ _ _ (c.len.ensures.looks model1) (c.selector_of.ensures.reads.looks model2))
    (c.in_default.ensures.syncs model).durable

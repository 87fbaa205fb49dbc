use Rattle.disk_model.specs.inside.Moments.{still}
use Rattle.journal.proofs.Again.{flushed, flushing, turning}
use Rattle.journal.proofs.rewrite.activate.Goals as goal

pub returns-in_err-write_at-clause-any_moment : goal.returns-in_err-write_at-clause-any_moment
returns-in_err-write_at-clause-any_moment g c = λ model before payloads ready.
    turning c.args.area _ c.selector_naming.ensures _ before payloads ready _ _ (c.write_at.ensures.writes model)

pub returns-in_err-sync-clause-any_moment : goal.returns-in_err-sync-clause-any_moment
returns-in_err-sync-clause-any_moment g c = λ model before payloads ready.
    let model1 = still _ _ _ c.write_at.ensures.called model in
    flushing c.args.area _ c.selector_naming.ensures _ before payloads ready _ _ _ _ _ (c.write_at.ensures.writes model) (c.sync.ensures.syncs model1)

pub returns-clause-any_moment : goal.returns-clause-any_moment
returns-clause-any_moment g c = λ model before payloads ready.
    let model1 = still _ _ _ c.write_at.ensures.called model in
    flushing c.args.area _ c.selector_naming.ensures _ before payloads ready _ _ _ _ _ (c.write_at.ensures.writes model) (c.sync.ensures.syncs model1)

pub returns-clause-acknowledged : goal.returns-clause-acknowledged
returns-clause-acknowledged g c = λ model before payloads ready.
    let model1 = still _ _ _ c.write_at.ensures.called model in
    flushed c.args.area _ c.selector_naming.ensures _ before payloads ready _ _ _ (c.in_ok-write_at.ensures.writes model) (c.in_ok-sync.ensures.syncs model1)

use Rattle.std.proofs.Common.{arith, ◌+◌}
use Rattle.disk_model.specs.inside.Moments.{still}
use Rattle.journal.proofs.Again.{after_header, one_laid, spared_on, spared_torn, spares_on, spares_write}
use Rattle.journal.proofs.rewrite.lay_record.Goals as goal

pub returns-in_err-write_at-clause-moments : goal.returns-in_err-write_at-clause-moments
returns-in_err-write_at-clause-moments g c = λ model.
    spares_write c.args.area (c.args.end + 1) _ _ _ _ (after_header c.args.area (c.args.end + 1) (omega (arith, c.requires.gate))) (c.write_at.ensures.writes model)

pub returns-in_err-write_at-clause-spared : goal.returns-in_err-write_at-clause-spared
returns-in_err-write_at-clause-spared g c = λ model.
    spared_torn c.args.area (c.args.end + 1) _ _ _ (after_header c.args.area (c.args.end + 1) (omega (arith, c.requires.gate))) (c.write_at.ensures.writes model).touched

pub returns-in_err-write_at-2-clause-moments : goal.returns-in_err-write_at-2-clause-moments
returns-in_err-write_at-2-clause-moments g c = λ model.
    let model1 = still _ _ _ c.write_at.ensures.called model in
    spares_on _ _ _ _ (spares_write c.args.area (c.args.end + 1) _ _ _ _ (after_header c.args.area (c.args.end + 1) (omega (arith, c.requires.gate))) (c.write_at.ensures.writes model)) (spares_write c.args.area c.args.end _ _ _ _ (after_header c.args.area c.args.end c.requires.gate) (c.write_at-2.ensures.writes model1))

pub returns-in_err-write_at-2-clause-spared : goal.returns-in_err-write_at-2-clause-spared
returns-in_err-write_at-2-clause-spared g c = λ model.
    let model1 = still _ _ _ c.write_at.ensures.called model in
    spared_on c.args.area _ _ _ (spared_torn c.args.area (c.args.end + 1) _ _ _ (after_header c.args.area (c.args.end + 1) (omega (arith, c.requires.gate))) (c.write_at.ensures.writes model).touched) (spared_torn c.args.area c.args.end _ _ _ (after_header c.args.area c.args.end c.requires.gate) (c.write_at-2.ensures.writes model1).touched)

pub returns-clause-moments : goal.returns-clause-moments
returns-clause-moments g c = λ model.
    let model1 = still _ _ _ c.write_at.ensures.called model in
    spares_on _ _ _ _ (spares_write c.args.area (c.args.end + 1) _ _ _ _ (after_header c.args.area (c.args.end + 1) (omega (arith, c.requires.gate))) (c.write_at.ensures.writes model)) (spares_write c.args.area c.args.end _ _ _ _ (after_header c.args.area c.args.end c.requires.gate) (c.write_at-2.ensures.writes model1))

pub returns-clause-spared : goal.returns-clause-spared
returns-clause-spared g c = λ model.
    let model1 = still _ _ _ c.write_at.ensures.called model in
    spared_on c.args.area _ _ _ (spared_torn c.args.area (c.args.end + 1) _ _ _ (after_header c.args.area (c.args.end + 1) (omega (arith, c.requires.gate))) (c.write_at.ensures.writes model).touched) (spared_torn c.args.area c.args.end _ _ _ (after_header c.args.area c.args.end c.requires.gate) (c.write_at-2.ensures.writes model1).touched)

pub returns-clause-laid : goal.returns-clause-laid
returns-clause-laid g c = λ model payloads payload is_payload are ends standing.
    let model1 = still _ _ _ c.write_at.ensures.called model in
    one_laid c.args.area c.args.end c.args.bytes.now payloads payload is_payload are ends _ _ _ standing (c.in_ok-write_at.ensures.writes model).written (c.in_ok-write_at-2.ensures.writes model1).written

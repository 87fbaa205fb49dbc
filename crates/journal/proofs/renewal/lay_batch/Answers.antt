use Rattle.journal.proofs.Again.{after_header, spared_torn, spares_write}
use Rattle.journal.proofs.Batches.{batch_written}
use Rattle.journal.proofs.renewal.lay_batch.Goals as goal

pub returns-clause-moments : goal.returns-clause-moments
returns-clause-moments g c = λ model.
    spares_write c.args.area c.args.end _ _ _ _ (after_header c.args.area c.args.end c.requires.gate) (c.write_at.ensures.writes model)

pub returns-clause-spared : goal.returns-clause-spared
returns-clause-spared g c = λ model.
    spared_torn c.args.area c.args.end _ _ _ (after_header c.args.area c.args.end c.requires.gate) (c.write_at.ensures.writes model).touched

pub returns-clause-laid : goal.returns-clause-laid
returns-clause-laid g c = batch_written c.write_at.result c.args.area c.args.end c.args.bytes.now (g.D.Disk.view c.args.disk.now) (g.D.Disk.view c.write_at.new.self) c.write_at.ensures.writes

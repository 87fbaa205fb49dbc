use Rattle.disk_model.proofs.Record.{synced_on}
use Rattle.disk_model.proofs.memory.MemoryDiskDisk.sync.Goals as goal

pub returns-clause-syncs : goal.returns-clause-syncs
returns-clause-syncs c = λ model. synced_on _ _ c.args.self.now.calls.items c.note.new.calls.items c.args.area c.in_default.ensures.noted

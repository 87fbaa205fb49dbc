use Rattle.disk_model.specs.declared.disk.Area.TheVariants.{First, Second}
use Rattle.disk_model.proofs.Record.{wrote_on}
use Rattle.disk_model.proofs.memory.MemoryDiskDisk.write_at.Goals as goal

pub returns-in_default-clause-writes : goal.returns-in_default-clause-writes
returns-in_default-clause-writes c = rw c.in-First.is (λ model.
    let requires = rw c.in-First.is at c.requires in
    wrote_on _ _ c.args.self.now.calls.items c.write.new.calls.items First c.args.offset c.args.bytes.now (requires model).0 c.in_default.ensures.noted)

pub returns-in_default-write-clause-writes : goal.returns-in_default-write-clause-writes
returns-in_default-write-clause-writes c = rw c.in-Second.is (λ model.
    let requires = rw c.in-Second.is at c.requires in
    wrote_on _ _ c.args.self.now.calls.items c.write-in-Second.new.calls.items Second c.args.offset c.args.bytes.now (requires model).0 c.in_default-write.ensures.noted)

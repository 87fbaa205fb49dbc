use Rattle.sheet_files.proofs.Replayed.{wrote}
use Rattle.sheet_files.proofs.memory_file.MemoryFileDiskFile.write.Goals as goal

pub returns-clause-writes : goal.returns-clause-writes
returns-clause-writes c = λ kept inside fits.
    wrote tt c.args.offset c.args.bytes.now _ _ inside
    (c.in_ok-write.ensures.noted c.args.self.now.start.items c.requires).after

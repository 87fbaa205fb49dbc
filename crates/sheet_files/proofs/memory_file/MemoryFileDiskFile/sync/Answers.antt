use Rattle.sheet_files.proofs.Replayed.{synced}
use Rattle.sheet_files.proofs.memory_file.MemoryFileDiskFile.sync.Goals as goal

pub returns-clause-syncs : goal.returns-clause-syncs
returns-clause-syncs c = λ kept sound.
    synced c.args.self.now.start.items c.args.self.now.calls.items c.args.moment _
    (c.in_ok-note_sync.ensures.noted c.args.self.now.start.items c.requires).after

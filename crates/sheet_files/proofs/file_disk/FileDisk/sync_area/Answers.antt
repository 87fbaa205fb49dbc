use Rattle.sheet_files.specs.DiskFile.{second_of}
use Rattle.sheet_files.specs.inside.Two.{both_keep}
use Rattle.sheet_files.proofs.Two.{no_sync, synced_first, synced_second}
use Rattle.sheet_files.proofs.file_disk.FileDisk.sync_area.Goals as goal

pub returns-then-self-clause-syncs : goal.returns-then-self-clause-syncs
returns-then-self-clause-syncs g c = λ kept. no_sync c.args.area c.sync_failed.result _

pub returns-in-None-clause-syncs : goal.returns-in-None-clause-syncs
returns-in-None-clause-syncs g c = λ kept. no_sync c.args.area c.from.result _

pub returns-in-First-clause-syncs : goal.returns-in-First-clause-syncs
returns-in-First-clause-syncs g c = rw c.in-First.is (λ kept.
    let disk = c.args.self.now in
    let both = both_keep _ _ kept in
    let synced = c.sync_file-synced.ensures.syncs both.0 (disk.first_sound c.if-self.false) in
    synced_first c.sync_file-synced.result disk.moment (g.F.DiskFile.view disk.first) _ (second_of g.F.DiskFile.view disk.second)
    disk.second_still c.sync_file-synced.ensures.passes synced.content synced.images synced.durable)

pub returns-in-Some-clause-syncs : goal.returns-in-Some-clause-syncs
returns-in-Some-clause-syncs g c = rw c.in-Second.is (rw c.in-Some.is (λ kept.
    let disk = c.args.self.now in
    let both = both_keep _ _ kept in
    let sound = (rw c.in-Some.is at disk.second_sound) c.if-self.false in
    let synced = c.sync_file-synced-in-Some.ensures.syncs both.1 sound in
    synced_second c.sync_file-synced-in-Some.result disk.moment (g.F.DiskFile.view disk.first) (g.F.DiskFile.view c.in-Some.second) _
    disk.first_still c.sync_file-synced-in-Some.ensures.passes synced.content synced.images synced.durable))

use Rattle.sheet_files.specs.DiskFile.{second_of}
use Rattle.sheet_files.specs.inside.Two.{both_keep}
use Rattle.sheet_files.proofs.Two.{no_write, wrote_first, wrote_second}
use Rattle.sheet_files.proofs.file_disk.FileDisk.write.Goals as goal

pub returns-then-eq-clause-writes : goal.returns-then-eq-clause-writes
returns-then-eq-clause-writes g c = λ kept. no_write c.args.area c.args.offset c.args.bytes.now c.from.result _

pub returns-then-self-clause-writes : goal.returns-then-self-clause-writes
returns-then-self-clause-writes g c = λ kept. no_write c.args.area c.args.offset c.args.bytes.now c.sync_failed.result _

pub returns-in-None-clause-writes : goal.returns-in-None-clause-writes
returns-in-None-clause-writes g c = λ kept. no_write c.args.area c.args.offset c.args.bytes.now c.from-in-None.result _

pub returns-in-First-clause-writes : goal.returns-in-First-clause-writes
returns-in-First-clause-writes g c = rw c.in-First.is (λ kept.
    let inside = (rw c.in-First.is at c.requires) kept in
    let disk = c.args.self.now in
    let both = both_keep _ _ kept in
    wrote_first c.write-written.result disk.moment (g.F.DiskFile.view disk.first) _ (second_of g.F.DiskFile.view disk.second)
    c.args.offset c.args.bytes.now disk.second_still c.write-written.ensures.passes
    (c.write-written.ensures.writes both.0 inside.0 inside.1))

pub returns-in-Some-clause-writes : goal.returns-in-Some-clause-writes
returns-in-Some-clause-writes g c = rw c.in-Second.is (rw c.in-Some.is (λ kept.
    let inside = (rw c.in-Some.is at (rw c.in-Second.is at c.requires)) kept in
    let disk = c.args.self.now in
    let both = both_keep _ _ kept in
    wrote_second c.write-written-in-Some.result disk.moment (g.F.DiskFile.view disk.first) (g.F.DiskFile.view c.in-Some.second) _
    c.args.offset c.args.bytes.now disk.first_still c.write-written-in-Some.ensures.passes
    (c.write-written-in-Some.ensures.writes both.1 inside.0 inside.1)))

use Rattle.recovery.proofs.Owed.{flushed_keep, flushed_each}
use Rattle.recovery.proofs.owing.write_group.Goals as goal

pub returns-in-Ok-clause-keeps : goal.returns-in-Ok-clause-keeps
returns-in-Ok-clause-keeps g c = λ model payloads keeps.
    flushed_keep c.args.journal c.args.group.payloads c.requires c.room-room.ensures.content_stays model c.in-Ok.journal.disk.history c.in-Ok.journal.end (λ before real. c.in-Ok.ensures.ok model before real) payloads keeps

pub returns-in-Ok-clause-any_moment : goal.returns-in-Ok-clause-any_moment
returns-in-Ok-clause-any_moment g c = λ model before payloads real keeps.
    flushed_each c.args.journal c.args.group.payloads c.requires c.room-room.ensures.content_stays model c.in-Ok.journal.disk.history (λ b r. c.in-Ok.ensures.any_moment model b r) before payloads real keeps

pub returns-in-Err-Disk-clause-any_moment : goal.returns-in-Err-Disk-clause-any_moment
returns-in-Err-Disk-clause-any_moment g c = λ model before payloads real keeps.
    let moments = rw c.in-Err-Disk.field-0-is at c.in-Err-Disk.ensures.any_moment in
    flushed_each c.args.journal c.args.group.payloads c.requires c.room-room.ensures.content_stays model (g.D.Disk.view c.in-Err-Disk.disk).history (λ b r. moments model b r) before payloads real keeps

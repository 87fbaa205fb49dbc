use Rattle.std.proofs.Common.{◌≡◌, ◌++◌, ⊎_elim, length, arith}
use Rattle.journal.specs.Area.{record_of}
use Rattle.journal.specs.declared.walk.GateContent.TheVariants as steps
use Rattle.journal.proofs.Walks.{reported_here}
use Rattle.journal.proofs.walk.payload_len_at.Goals as goal

pub returns-in-Record-clause-reported : goal.returns-in-Record-clause-reported
returns-in-Record-clause-reported c = λ payload rest is fits some left begins.
    let step = c.in-Record.ensures.step (record_of payload ++ rest) left (omega (arith, left, some)) begins in
    let same = reported_here payload rest (steps.Record c.in-Record.len) is some step in
    let reported : c.in-Record.len ≡ length payload = cc same in
    omega (arith, reported, fits, c.min.ensures)

pub returns-in-End-clause-reported : goal.returns-in-End-clause-reported
returns-in-End-clause-reported c = λ payload rest is fits some left begins.
    let step = c.step_at.ensures.step (record_of payload ++ rest) left (omega (arith, left, some)) begins in
    let same = reported_here payload rest c.step_at.result is some step in
    absurd (⊎_elim (λ closed. cc (same, closed)) (λ broken. cc (same, broken)) c.in-End.is)

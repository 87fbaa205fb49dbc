use Rattle.std.proofs.Common.{◌≡◌, ◌+◌, ◌∙◌, false, subst, arith}
use Rattle.sheet_text.specs.Escape.{is_plain}
use Rattle.sheet_text.specs.inside.PlainRuns.{AllPassBetween}
use Rattle.line_room.proofs.Putting.{puts_more, puts_run}
use Rattle.line_room.proofs.filling.put_run.Goals as goal

pub returns-then-run-lt-LANES-clause-puts : goal.returns-then-run-lt-LANES-clause-puts
returns-then-run-lt-LANES-clause-puts c =
    let so = c.loop-to.invariant in
    let lanes = c.put_lanes-run.ensures in
    let bytes = c.args.bytes.now in
    let to = c.loop-to.to in
    let held = c.loop-to.held in
    let run = c.put_lanes-run.result in
    let room = c.loop-to.room in
    let new = c.put_lanes-run.new.room in
    puts_more bytes c.args.at to (to + run) c.args.room.now c.args.used room held new (held + run) so.4
    (puts_run bytes to run room held new (omega (arith, so.1, c.loop-to-test.true, c.if-room-held-ge-LANES.true)) so.2 lanes.run.0 lanes.run.1 lanes.put)

pub loop-to-preserved : goal.loop-to-preserved
loop-to-preserved c =
    let so = c.loop-to.invariant in
    let lanes = c.put_lanes-run.ensures in
    let bytes = c.args.bytes.now in
    let to = c.loop-to.to in
    let held = c.loop-to.held in
    let run = c.put_lanes-run.result in
    let room = c.loop-to.room in
    let new = c.put_lanes-run.new.room in
    let all : run ≡ 16 = omega (arith, lanes.run.0, c.if-run-lt-LANES.false) in
    let pass = subst (λ n. AllPassBetween (is_plain false) bytes to (to + n)) all lanes.run.1 in (
      omega (arith, so.0),
      omega (arith, so.1, c.loop-to-test.true, c.if-room-held-ge-LANES.true),
      omega (arith, so.2, lanes.size, c.loop-to-test.true, c.if-room-held-ge-LANES.true),
      lanes.size ∙ so.3,
      puts_more bytes c.args.at to (to + 16) c.args.room.now c.args.used room held new (held + 16) so.4
          (puts_run bytes to 16 room held new (omega (arith, so.1, c.loop-to-test.true, c.if-room-held-ge-LANES.true)) so.2 (omega arith) pass lanes.put),
    )

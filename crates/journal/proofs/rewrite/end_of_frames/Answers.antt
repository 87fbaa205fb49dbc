use Rattle.std.proofs.Common.{◌≡◌, ◌+◌, length, get_or, ap, arith, ◌∙◌}
use Rattle.journal.proofs.Again.{end_take_le, end_take_more}
use Rattle.journal.proofs.rewrite.end_of_frames.Goals as goal

pub returns-then-room-end-clause-none : goal.returns-then-room-end-clause-none
returns-then-room-end-clause-none c = λ fits.
    let i = c.loop-frame.frame-index in
    let len : c.payload_len-len.result ≡ length (get_or c.args.frames.now i c.frame-item.result) = c.payload_len-len.ensures.len ∙ ap length c.frame-item.is in
    omega (arith, fits, len, c.if-room-end.true, c.loop-frame.invariant.end, c.loop-frame.invariant.room, end_take_more c.args.frames.now i c.frame-item.result (omega (arith, c.loop-frame-test.true)), end_take_le c.args.frames.now (i + 1))

pub loop-frame-preserved : goal.loop-frame-preserved
loop-frame-preserved c =
    let i = c.loop-frame.frame-index in
    let len : c.payload_len-len.result ≡ length (get_or c.args.frames.now i c.frame-item.result) = c.payload_len-len.ensures.len ∙ ap length c.frame-item.is in
    record {
      end = omega (arith, len, c.loop-frame.invariant.end, end_take_more c.args.frames.now i c.frame-item.result (omega (arith, c.loop-frame-test.true)));
      room = omega (arith, c.if-room-end.false, c.loop-frame.invariant.room);
    }

use Rattle.std.proofs.Common.{◌+◌, ap, ◌∙◌, arith}
use Rattle.std.specs.Prelude.{slice_range}
use Rattle.arrivals.specs.Held.{if_read}
use Rattle.arrivals.proofs.Rooms.{first-feed}
use Rattle.arrivals.proofs.Splitting.{line_len-feed}
use Rattle.arrivals.proofs.Giving.{took-gives}
use Rattle.arrivals.proofs.buffer.LineBuffer.next.Goals as goal

pub returns-in-Some-clause-gives : goal.returns-in-Some-clause-gives
returns-in-Some-clause-gives c =
    let same = ap (λ r. slice_range r c.self.inside.start c.self.inside.end) c.deref.ensures.value ∙ ap (λ h. h.bytes) c.self.view_is in
    let feed = first-feed _ c.args.self.now.bytes c.in-Some.at same c.in-Some.ensures in
    took-gives c.args.self.now c.give.new.self c.give.result (c.in-Some.at + 1)
    (record { rest = c.give.ensures.rest; dropping = c.give.ensures.dropping; ended = c.give.ensures.ended; reported = c.give.ensures.reported })
    (omega (arith, feed.within))
    (λ no. omega arith)
    (λ more. line_len-feed c.args.self.now.bytes (if_read c.args.self.now.ended more) c.in-Some.at feed.within feed.feed feed.before)

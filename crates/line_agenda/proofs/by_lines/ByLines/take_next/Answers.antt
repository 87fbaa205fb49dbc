use Rattle.std.proofs.Common.{refl, subst}
use Rattle.std.specs.Prelude.{None, Ok}
use Rattle.arrivals.specs.Lines.{whole, too_long}
use Rattle.live.specs.LiveLines.{live_line_of}
use Rattle.line_agenda.specs.LinesAt.{read_to, lines_stand}
use Rattle.line_agenda.specs.Taking.{EndsInput, ReadsOn, TakesGivenLine, alone, ended, reads_on}
use Rattle.line_agenda.proofs.by_lines.ByLines.take_next.Goals as goal

pub returns-in-Line : goal.returns-in-Line
returns-in-Line g c = λ w h.
    let before = lines_stand g.R.Read.remaining c.args.self.now in
    let k = c.next.new.self.held in
    alone (whole k.line) k c.in-Line.ensures.ready c.in-Line.ensures.gives
    (subst (λ r. TakesGivenLine (read_to before k (g.R.Read.remaining r)) w c.args.now (live_line_of k.line) c.take_line.result (lines_stand g.R.Read.remaining c.take_line.new.self))
    c.in-Line.ensures.reader (c.take_line.ensures w h))

pub returns-in-TooLong : goal.returns-in-TooLong
returns-in-TooLong g c = λ w h.
    let before = lines_stand g.R.Read.remaining c.args.self.now in
    let k = c.next.new.self.held in
    alone too_long k c.in-TooLong.ensures.ready c.in-TooLong.ensures.gives
    (subst (λ r. TakesGivenLine (read_to before k (g.R.Read.remaining r)) w c.args.now None (Ok c.take_too_long.result) (lines_stand g.R.Read.remaining c.take_too_long.new.self))
    c.in-TooLong.ensures.reader (c.take_too_long.ensures w))

pub returns-in-More : goal.returns-in-More
returns-in-More g c = λ w h.
    let before = lines_stand g.R.Read.remaining c.args.self.now in
    let k = c.next.new.self.held in
    reads_on k c.in-More.ensures.ready c.in-More.ensures.gives.3
    (subst (λ r. ReadsOn (read_to before k (g.R.Read.remaining r)) c.read_on.result (lines_stand g.R.Read.remaining c.read_on.new.self)) c.in-More.ensures.reader c.read_on.ensures)

pub returns-in-End : goal.returns-in-End
returns-in-End g c = λ w h.
    let before = lines_stand g.R.Read.remaining c.args.self.now in
    let k = c.next.new.self.held in
    ended k c.end_input.result c.in-End.ensures.ready c.in-End.ensures.gives.1 refl
    (subst (λ r. EndsInput before.transaction (read_to before k (g.R.Read.remaining r)) c.end_input.result
    (lines_stand g.R.Read.remaining c.end_input.new.self)) c.in-End.ensures.reader c.end_input.ensures)

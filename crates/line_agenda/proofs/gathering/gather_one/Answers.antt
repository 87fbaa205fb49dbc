use Rattle.live.proofs.Gatherings.{gathers_one}
use Rattle.line_agenda.proofs.gathering.gather_one.Goals as goal

pub returns-clause-one : goal.returns-clause-one
returns-clause-one g c = λ is.
    gathers_one c.args.lines.now.held c.next.new.self.held c.next.result c.in-Some.line.now c.args.events.now.items c.add_line.new.events.items
    c.in-Some.ensures (c.add_line.ensures.added c.if-not-add_line.false) c.next.ensures.gives

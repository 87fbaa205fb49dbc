use Rattle.std.proofs.Common.{◌∙◌, subst, sym}
use Rattle.live.specs.LiveLines.{live_line_of}
use Rattle.line_agenda.specs.LinesAt.{lines_stand, with_transaction}
use Rattle.line_agenda.specs.Taking.{TakesGivenLine}
use Rattle.line_agenda.proofs.by_lines.ByLines.take_line.Goals as goal

pub returns-in-None : goal.returns-in-None
returns-in-None g c = λ w h.
    let before = lines_stand g.R.Read.remaining c.args.self.now in
    subst (λ b. TakesGivenLine (with_transaction before b) w c.args.now (live_line_of before.buffer.line) c.take_by_itself.result (lines_stand g.R.Read.remaining c.take_by_itself.new.self))
    (sym c.in-None.is ∙ c.take.ensures.value) (c.take_by_itself.ensures w h)

pub returns-in-Some : goal.returns-in-Some
returns-in-Some g c = λ w h.
    let before = lines_stand g.R.Read.remaining c.args.self.now in
    subst (λ b. TakesGivenLine (with_transaction before b) w c.args.now (live_line_of before.buffer.line) c.take_in_transaction.result (lines_stand g.R.Read.remaining c.take_in_transaction.new.self))
    (sym c.in-Some.is ∙ c.take.ensures.value) (c.take_in_transaction.ensures w)

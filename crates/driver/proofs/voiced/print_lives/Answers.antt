use Rattle.tellings.specs.Voice.{lives_text}
use Rattle.tellings.specs.inside.Lines.{lines_of_each}
use Rattle.tellings.proofs.Cut.{cut_of_each}
use Rattle.child_edge.specs.Reported.{spoken}
use Rattle.driver.proofs.voiced.print_lives.Goals as goal

pub returns-in-Err-clause-cut : goal.returns-in-Err-clause-cut
returns-in-Err-clause-cut g c = λ w h.
    cut_of_each g.T.Tells.voice.in_lines (λ o. lives_text g.T.Tells.voice w (spoken o.reply)) c.args.outcomes.now c.loop-outcome.outcome-index c.outcome-item.result
    (g.W.Write.contents c.args.writer.now) (g.W.Write.contents c.loop-outcome.writer) (g.W.Write.contents c.print_life.new.writer) _
    (λ so o. lines_of_each (g.T.Tells.voice.came w) (g.T.Tells.to_lines.came so w) (spoken o.reply))
    c.loop-outcome-test.true c.outcome-item.is (c.loop-outcome.invariant w h) (c.in-Err.ensures.cut w h)

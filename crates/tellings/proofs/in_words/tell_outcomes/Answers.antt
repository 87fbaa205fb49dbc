use Rattle.tellings.specs.Words.{in_words}
use Rattle.tellings.proofs.Voices.{one_outcome}
use Rattle.tellings.proofs.in_words.tell_outcomes.Goals as goal

pub loop-outcome-preserved : goal.loop-outcome-preserved
loop-outcome-preserved g c = λ line sheet.
    one_outcome in_words sheet line c.args.outcomes.now c.loop-outcome.outcome-index c.outcome-item.result (g.W.Write.contents c.args.writer.now)
    (g.W.Write.contents c.loop-outcome.writer) (g.W.Write.contents c.write_outcome.new.writer)
    c.loop-outcome-test.true c.outcome-item.is (c.loop-outcome.invariant line sheet) c.in_ok-write_outcome.ensures.ok

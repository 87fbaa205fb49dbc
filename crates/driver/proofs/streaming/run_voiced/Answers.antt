use Rattle.driver.specs.Place.{agenda_rules, source_rules}
use Rattle.driver.proofs.OnStream.{over_on_stream}
use Rattle.driver.proofs.streaming.run_voiced.Goals as goal

pub returns-clause-over : goal.returns-clause-over
returns-clause-over g c =
    over_on_stream (agenda_rules g.A.Agenda.rules g.A.Joins.joins)
    (source_rules g.S.Children.after g.S.Sources.wakes g.S.Sources.clock) g.T.Tells.voice g.W.Write.contents g.W.Stamped.held _ _ _ c.run_over-disk.ensures.over

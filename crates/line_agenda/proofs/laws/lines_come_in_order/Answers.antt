use Rattle.driver.specs.Place.{source_rules}
use Rattle.line_agenda.proofs.InOrder.{run_in_order}
use Rattle.line_agenda.proofs.laws.lines_come_in_order.Goals as goal

pub returns : goal.returns
returns g c = λ p q todo left steps ran. run_in_order (source_rules g.S.Children.after g.S.Sources.wakes g.S.Sources.clock) g.K.Sink.rules p q todo left steps ran

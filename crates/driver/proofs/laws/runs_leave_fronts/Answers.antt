use Rattle.driver.specs.Place.{agenda_rules, rules, source_rules}
use Rattle.driver.proofs.Fronts.{leave_fronts}
use Rattle.driver.proofs.laws.runs_leave_fronts.Goals as goal

pub returns : goal.returns
returns g c =
    let R = rules (agenda_rules g.A.Agenda.rules g.A.Joins.joins) (source_rules g.S.Children.after g.S.Sources.wakes g.S.Sources.clock) g.K.Sink.rules in
    λ p q todo left steps. leave_fronts R p q todo left steps

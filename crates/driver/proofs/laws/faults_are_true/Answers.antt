use Rattle.driver.specs.Place.{agenda_rules, rules, source_rules}
use Rattle.driver.proofs.TrueFaults.{over_true}
use Rattle.driver.proofs.laws.faults_are_true.Goals as goal

pub returns : goal.returns
returns g c =
    let R = rules (agenda_rules g.A.Agenda.rules g.A.Joins.joins) (source_rules g.S.Children.after g.S.Sources.wakes g.S.Sources.clock) g.K.Sink.rules in
    λ own first last answer. over_true R own first last answer

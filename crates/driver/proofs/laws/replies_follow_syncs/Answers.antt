use Rattle.driver.specs.Place.{agenda_rules, rules, source_rules}
use Rattle.driver.proofs.Order.{replies_follow}
use Rattle.driver.proofs.laws.replies_follow_syncs.Goals as goal

pub returns : goal.returns
returns g c =
    let R = rules (agenda_rules g.A.Agenda.rules g.A.Joins.joins) (source_rules g.S.Children.after g.S.Sources.wakes g.S.Sources.clock) g.K.Sink.rules in
    λ p q todo left before after s. replies_follow R p q todo left before after s

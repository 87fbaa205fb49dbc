use Rattle.driver.specs.Place.{agenda_rules, rules, source_rules}
use Rattle.driver_visits.proofs.Visiting.{ends_as_visit}
use Rattle.driver_visits.proofs.driven_is_visit.Goals as goal

pub returns : goal.returns
returns g c = λ first last answer it model. ends_as_visit
    (rules (agenda_rules g.A.Agenda.rules g.A.Joins.joins)
    (source_rules g.S.Children.after g.S.Sources.wakes g.S.Sources.clock) g.K.Sink.rules) first last answer it model

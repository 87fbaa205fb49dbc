use Rattle.driver.specs.Place.{agenda_rules, rules, source_rules}
use Rattle.driver_visits.proofs.Visiting.{durable_at}
use Rattle.driver_visits.proofs.printed_is_durable.Goals as goal

pub returns : goal.returns
returns g c = λ first last answer it before after r model is. durable_at
    (rules (agenda_rules g.A.Agenda.rules g.A.Joins.joins)
    (source_rules g.S.Children.after g.S.Sources.wakes g.S.Sources.clock) g.K.Sink.rules) first last answer it model before after r is

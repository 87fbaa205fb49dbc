use Rattle.driver.specs.Place.{source_rules}
use Rattle.script_agenda.specs.Run.{running_rules}
use Rattle.driver_visits.proofs.Visiting.{durable_at, ends_as_visit}
use Rattle.driver_visits.proofs.scripts_are_visits.Goals as goal

pub returns-clause-visit : goal.returns-clause-visit
returns-clause-visit g c = λ first last answer it model. ends_as_visit (running_rules (source_rules g.S.Children.after g.S.Sources.wakes g.S.Sources.clock) g.W.Stamped.held) first last answer it model

pub returns-clause-durable : goal.returns-clause-durable
returns-clause-durable g c = λ first last answer it before after r model is. durable_at
    (running_rules (source_rules g.S.Children.after g.S.Sources.wakes g.S.Sources.clock) g.W.Stamped.held) first last answer it model before after r is

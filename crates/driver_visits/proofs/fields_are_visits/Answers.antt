use Rattle.driver.specs.Noted.{noting_rules}
use Rattle.driver.specs.Place.{rules, source_rules}
use Rattle.field_agenda.specs.FieldLines.{by_field_lines}
use Rattle.field_agenda.specs.FieldsRules.{fields_rules}
use Rattle.driver_visits.proofs.Visiting.{durable_at, ends_as_visit}
use Rattle.driver_visits.proofs.fields_are_visits.Goals as goal

pub returns-clause-visit : goal.returns-clause-visit
returns-clause-visit g c = λ first last answer it model. ends_as_visit
    (rules (fields_rules g.P.Programs.finds) (source_rules g.S.Children.after g.S.Sources.wakes g.S.Sources.clock)
    (noting_rules (by_field_lines g.T.Tells.voice) g.W.Stamped.held)) first last answer it model

pub returns-clause-durable : goal.returns-clause-durable
returns-clause-durable g c = λ first last answer it before after r model is. durable_at
    (rules (fields_rules g.P.Programs.finds) (source_rules g.S.Children.after g.S.Sources.wakes g.S.Sources.clock)
    (noting_rules (by_field_lines g.T.Tells.voice) g.W.Stamped.held)) first last answer it model before after r is

use Rattle.driver.specs.Place.{source_rules}
use Rattle.field_agenda.proofs.Looked.{looked_first}
use Rattle.field_agenda.proofs.laws.fields_are_looked_for.Goals as goal

pub returns : goal.returns
returns g c = λ p q steps left new ran. looked_first g.P.Programs.finds (source_rules g.S.Children.after g.S.Sources.wakes g.S.Sources.clock) g.K.Sink.rules p q left steps new ran

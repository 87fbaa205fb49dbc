use Rattle.driver.specs.Place.{source_rules}
use Rattle.field_agenda.proofs.Endings.{comes_to_an_end}
use Rattle.field_agenda.proofs.laws.fields_come_to_an_end.Goals as goal

pub returns : goal.returns
returns g c = λ p q steps ran. comes_to_an_end g.P.Programs.finds (source_rules g.S.Children.after g.S.Sources.wakes g.S.Sources.clock) g.K.Sink.rules p q steps ran

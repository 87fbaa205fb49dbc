use Rattle.std.proofs.Common.{refl}
use Rattle.driver.specs.Place.{source_rules}
use Rattle.line_agenda.proofs.TransactionEnds.{run_takes_transactions}
use Rattle.line_agenda.proofs.InOrder.{same_lines}
use Rattle.line_agenda.proofs.laws.wholes_are_transactions.Goals as goal

pub returns : goal.returns
returns g c = λ p q todo left before after first edits none ran.
    run_takes_transactions (source_rules g.S.Children.after g.S.Sources.wakes g.S.Sources.clock) g.K.Sink.rules p q todo left before after first edits p.agenda none (same_lines p.agenda p.agenda refl refl refl refl) ran

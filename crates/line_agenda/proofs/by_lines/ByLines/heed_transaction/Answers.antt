use Rattle.std.proofs.Common.{◌∙◌, ap}
use Rattle.std.specs.Prelude.{◌&&◌, Some}
use Rattle.live.specs.Saying.{stop_if}
use Rattle.line_agenda.specs.LinesAt.{holding, lines_stand}
use Rattle.line_agenda.specs.Transactions.{transaction_note}
use Rattle.line_agenda.proofs.by_lines.ByLines.heed_transaction.Goals as goal

pub returns-clause-note : goal.returns-clause-note
returns-clause-note g c = ap Some (c.transaction_note.ensures ∙ ap (λ refused. transaction_note c.args.first c.args.self.now.number refused) c.refused_one-refused.ensures)

pub returns-clause-stands : goal.returns-clause-stands
returns-clause-stands g c =
    let before = lines_stand g.R.Read.remaining c.args.self.now in
    ap (λ held. holding before held) (c.stop_if-self.ensures ∙ ap (λ refused. stop_if (before.manner.strict && refused) before.held) c.refused_one-refused.ensures)

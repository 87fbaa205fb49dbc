use Rattle.std.proofs.Common.{◌+◌, ◌∙◌, ap, subst}
use Rattle.live.specs.LiveLines.{live_line_of}
use Rattle.live.specs.Saying.{IsCommand}
use Rattle.line_agenda.specs.Transactions.{asked_in}
use Rattle.line_agenda.proofs.by_lines.ByLines.take_in_transaction.Goals as goal

pub returns-in-Ok : goal.returns-in-Ok
returns-in-Ok g c = λ w. (
  c.in-Ok.chosen,
  c.in-Ok.ensures.ok ∙ ap (λ bytes. asked_in c.args.transaction (c.args.self.now.number + 1) (live_line_of bytes)) c.line.ensures,
  c.follow.ensures.action,
  c.follow.ensures.stands,
)

pub returns-in-Err : goal.returns-in-Err
returns-in-Err g c = λ w. (c.lack_memory.ensures.fault, subst (λ bytes. IsCommand (live_line_of bytes)) c.line.ensures c.in-Err.ensures.err, c.lack_memory.ensures.stands)

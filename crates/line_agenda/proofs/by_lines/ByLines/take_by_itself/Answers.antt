use Rattle.std.proofs.Common.{ap, subst}
use Rattle.live.specs.LiveLines.{live_line_of}
use Rattle.live.specs.Saying.{IsCommand}
use Rattle.line_agenda.proofs.Taken.{asks_same}
use Rattle.line_agenda.proofs.by_lines.ByLines.take_by_itself.Goals as goal

pub returns-in-Ok : goal.returns-in-Ok
returns-in-Ok g c = λ w h. (
  c.in-Ok.chosen,
  asks_same c.reading-at.result.manner c.args.self.now.manner c.reading-at.result.number _ w c.reading-at.result.now c.args.now (live_line_of c.line.result.now)
      (live_line_of c.args.self.now.lines.held.line) c.in-Ok.chosen
      c.reading-at.ensures.manner c.reading-at.ensures.number c.reading-at.ensures.now (ap live_line_of c.line.ensures) (c.in-Ok.ensures.ok w h),
  c.follow.ensures.action,
  c.follow.ensures.stands,
)

pub returns-in-Err : goal.returns-in-Err
returns-in-Err g c = λ w h. (c.lack_memory.ensures.fault, subst (λ bytes. IsCommand (live_line_of bytes)) c.line.ensures c.in-Err.ensures.err, c.lack_memory.ensures.stands)

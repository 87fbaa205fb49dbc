use Rattle.std.proofs.Common.{ap, map, ◌∙◌}
use Rattle.check_report.proofs.Runs.{map-reverse}
use Rattle.check_report.proofs.hunks.turned.Goals as goal

pub returns : goal.returns
returns c = ap (map (λ line. line.now)) c.reverse.ensures.items ∙ map-reverse (λ line. line.now) c.args.lines.items

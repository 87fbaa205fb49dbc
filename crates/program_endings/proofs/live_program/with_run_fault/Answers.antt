use Rattle.std.proofs.Common.{refl, true, false}
use Rattle.program_endings.specs.Records.{writing}
use Rattle.program_endings.proofs.Living.{faulted_by}
use Rattle.program_endings.proofs.live_program.with_run_fault.Goals as goal

pub returns-then-is_printed-clause-ended : goal.returns-then-is_printed-clause-ended
returns-then-is_printed-clause-ended g c =
    faulted_by g.T.Tells.voice (writing g.W.Write.contents c.args.output c.args.output) c.args.whole c.args.whole c.args.why c.is_printed.result true c.is_printed.ensures c.if-is_printed.true (refl, refl)

pub returns-clause-ended : goal.returns-clause-ended
returns-clause-ended g c =
    faulted_by g.T.Tells.voice (writing g.W.Write.contents c.args.output c.with_fault.result.output) c.args.whole c.with_fault.result.whole c.args.why c.is_printed.result false c.is_printed.ensures c.if-is_printed.false
    c.with_fault.ensures.last

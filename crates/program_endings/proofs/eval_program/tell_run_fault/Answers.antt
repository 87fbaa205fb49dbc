use Rattle.std.proofs.Common.{false, refl, true}
use Rattle.program_endings.specs.Records.{writing}
use Rattle.program_endings.proofs.Living.{faulted_by}
use Rattle.program_endings.proofs.eval_program.tell_run_fault.Goals as goal

pub returns-then-is_printed : goal.returns-then-is_printed
returns-then-is_printed g c =
    faulted_by g.T.Tells.voice (writing g.W.Write.contents c.args.output.now c.args.output.now) c.args.whole c.args.whole c.args.why c.is_printed.result true c.is_printed.ensures c.if-is_printed.true (refl, refl)

pub returns : goal.returns
returns g c =
    faulted_by g.T.Tells.voice (writing g.W.Write.contents c.args.output.now c.fault.new.writer) c.args.whole c.fault.result c.args.why c.is_printed.result false c.is_printed.ensures c.if-is_printed.false
    (c.fault.ensures.still, c.fault.ensures.reported, c.fault.ensures.front)

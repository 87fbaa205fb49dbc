use Rattle.std.proofs.Common.{sym, subst}
use Rattle.sheet_files.specs.Closing.{closable}
use Rattle.program_endings.specs.Programs.{ShownOf}
use Rattle.program_endings.specs.Records.{given_disk, writing}
use Rattle.program_endings.proofs.Answering.{show_answered}
use Rattle.program_endings.proofs.programs.show_disk.Goals as goal

pub returns : goal.returns
returns g c =
    let disk = given_disk (closable g.D.Disk.view g.D.Close.closed) c.args.disk in
    let wrote = writing g.W.Write.contents c.args.output.now c.show-disk.new.writer in
    subst (ShownOf disk wrote) (sym c.answered.ensures)
    (show_answered disk c.show-disk.result.disk wrote c.close.ensures c.show-disk.ensures.same c.show-disk.ensures.looks
    c.show-disk.result.answer c.show-disk.ensures.shown c.show-disk.ensures.found c.show-disk.ensures.failed c.show-disk.ensures.steady c.show-disk.ensures.fault)

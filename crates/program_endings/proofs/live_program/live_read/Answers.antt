use Rattle.std.proofs.Common.{ap}
use Rattle.driver.specs.Place.{source_rules}
use Rattle.program_endings.specs.LiveProgram.{live_setting, not_begun}
use Rattle.program_endings.specs.Records.{given_disk}
use Rattle.sheet_files.specs.Closing.{closable}
use Rattle.program_endings.proofs.Living.{begun_of}
use Rattle.program_endings.proofs.live_program.live_read.Goals as goal

pub returns-in-Ok : goal.returns-in-Ok
returns-in-Ok g c =
    begun_of (live_setting c.args.setting.manner g.T.Tells.voice g.W.Stamped.held) (g.R.Read.remaining c.args.input.now) (given_disk (closable g.D.Disk.view g.D.Close.closed) c.args.outside.disk)
    (source_rules g.S.Children.after g.S.Sources.wakes g.S.Sources.clock) g.W.Write.contents
    _ c.args.outside.sources c.live_lines.result.sources c.args.outside.output c.live_lines.result.output c.live_lines.result.whole c.live_lines.result.answer
    (ap (λ r. g.R.Read.remaining r.now) c.in-Ok.ensures.reader) c.live_lines.ensures

pub returns-in-Err : goal.returns-in-Err
returns-in-Err g c = not_begun c.with_fault.ensures.last c.with_fault.ensures.answer c.with_fault.ensures.sources c.close.ensures

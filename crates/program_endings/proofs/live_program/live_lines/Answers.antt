use Rattle.driver.specs.Place.{source_rules}
use Rattle.program_endings.specs.LiveProgram.{live_setting}
use Rattle.program_endings.specs.Records.{given_disk}
use Rattle.sheet_files.specs.Closing.{closable}
use Rattle.program_endings.proofs.Living.{lived_so}
use Rattle.program_endings.proofs.live_program.live_lines.Goals as goal

pub returns : goal.returns
returns g c =
    let run = c.live_on.result in
    lived_so (live_setting c.args.setting.manner g.T.Tells.voice g.W.Stamped.held) (g.R.Read.remaining c.args.lines.reader) (given_disk (closable g.D.Disk.view g.D.Close.closed) c.args.outside.disk)
    (source_rules g.S.Children.after g.S.Sources.wakes g.S.Sources.clock) g.W.Write.contents
    c.args.outside.sources run.sources c.end_lived.result.sources c.args.outside.output run.output c.end_lived.result.output run.answer run.whole c.end_lived.result.whole c.end_lived.result.answer
    c.end_lived.ensures.sources c.live_on.ensures c.end_lived.ensures.ended

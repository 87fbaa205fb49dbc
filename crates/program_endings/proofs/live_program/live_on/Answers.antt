use Rattle.driver.specs.Place.{source_rules}
use Rattle.sheet_files.specs.Closing.{closable}
use Rattle.program_endings.proofs.Living.{before_lines, lives}
use Rattle.program_endings.proofs.live_program.live_on.Goals as goal

pub returns : goal.returns
returns g c =
    let made = c.new-agenda.ensures in
    let r = c.run_voiced-disk.result in
    lives g.R.Read.remaining g.T.Tells.voice g.W.Write.contents g.W.Stamped.held (source_rules g.S.Children.after g.S.Sources.wakes g.S.Sources.clock) c.args.setting.manner
    (closable g.D.Disk.view g.D.Close.closed) c.args.outside.disk r.disk c.args.outside.sources r.sources c.args.outside.output r.writer r.whole c.new-agenda.result
    r.agenda (g.R.Read.remaining c.args.lines.reader) r.answer c.answer_after.result
    (before_lines g.R.Read.remaining c.new-agenda.result c.args.setting.manner c.args.lines made.input made.manner made.number made.held made.doing made.due made.transaction made.late c.requires)
    c.run_voiced-disk.ensures.over c.close.ensures c.run_voiced-disk.ensures.same (c.answer_after.ensures _ c.stopped_at-stopped.ensures)

use Rattle.std.proofs.Common.{◌∙◌, ap}
use Rattle.driver.specs.Place.{source_rules}
use Rattle.script_agenda.specs.ScriptAt.{script_begun}
use Rattle.script_agenda.proofs.Runs.{ran_script}
use Rattle.script_agenda.proofs.running.run_read.Goals as goal

pub returns-clause-ran : goal.returns-clause-ran
returns-clause-ran g c =
    let r = c.run_voiced-disk.result in
    ran_script g.W.Stamped.held (source_rules g.S.Children.after g.S.Sources.wakes g.S.Sources.clock) c.args.strict c.args.script.now _ _ c.args.given.sources r.sources
    (g.W.Write.contents c.args.given.output) (g.W.Write.contents r.writer) r.whole c.new-agenda.result r.agenda r.answer c.answer_after.result
    (c.new-agenda.ensures ∙ ap (λ lines. script_begun lines c.args.strict) c.lines.ensures.value)
    c.run_voiced-disk.ensures.over (c.answer_after.ensures _ c.stopped_at-stopped.ensures)

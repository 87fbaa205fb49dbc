use Rattle.std.proofs.Common.{subst, sym}
use Rattle.std.specs.Prelude.{IfOk}
use Rattle.driver.specs.Place.{source_rules}
use Rattle.field_agenda.specs.declared.stage.Stage.{Stage}
use Rattle.field_agenda.specs.Stages.{IsEnded}
use Rattle.sheet_files.specs.Closing.{closable}
use Rattle.program_endings.specs.EvalProgram.{AnswersAfter}
use Rattle.program_endings.proofs.Evaluating.{evaluates, is_ended}
use Rattle.program_endings.proofs.eval_program.evaluate_on.Goals as goal

pub answer_after-requires : goal.answer_after-requires
answer_after-requires g c =
    subst (λ (how : Stage). IfOk c.run_voiced-disk.result.answer (λ done. IsEnded how)) (sym c.stage-stage.ensures)
    (is_ended g.P.Programs.finds g.T.Tells.voice g.W.Write.contents g.W.Stamped.held (source_rules g.S.Children.after g.S.Sources.wakes g.S.Sources.clock) c.args.setting.plan c.args.programs _ _ c.run_voiced-disk.result.answer c.run_voiced-disk.ensures.over)

pub returns : goal.returns
returns g c =
    let r = c.run_voiced-disk.result in
    evaluates g.P.Programs.finds g.T.Tells.voice g.W.Write.contents g.W.Stamped.held (source_rules g.S.Children.after g.S.Sources.wakes g.S.Sources.clock) c.args.setting.plan c.args.programs
    (closable g.D.Disk.view g.D.Close.closed) c.args.outside.disk r.disk c.args.outside.sources r.sources c.args.outside.output r.writer r.whole c.new-agenda.result
    r.agenda r.answer c.answer_after.result c.new-agenda.ensures c.run_voiced-disk.ensures.over c.close.ensures c.run_voiced-disk.ensures.same
    (subst (λ (how : Stage). AnswersAfter r.answer how c.answer_after.result) c.stage-stage.ensures c.answer_after.ensures)

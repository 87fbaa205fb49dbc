use Rattle.std.proofs.Common.{subst, sym}
use Rattle.std.specs.Prelude.{IfOk}
use Rattle.offline_programs.specs.Saying.{saying}
use Rattle.sheet_files.specs.Closing.{closable}
use Rattle.driver.specs.Place.{source_rules}
use Rattle.program_endings.specs.EvalProgram.{EvaluationOpened, eval_setting}
use Rattle.program_endings.specs.Records.{calling, passage_of, writing}
use Rattle.program_endings.proofs.eval_program.run_evaluation.Goals as goal

pub returns-in-Ok-clause-files : goal.returns-in-Ok-clause-files
returns-in-Ok-clause-files g c =
    subst (λ files. IfOk files (EvaluationOpened (eval_setting c.args.setting.plan c.args.programs g.P.Programs.finds g.T.Tells.voice g.W.Stamped.held)
    (passage_of (closable g.D.Disk.view g.D.Close.closed) (source_rules g.S.Children.after g.S.Sources.wakes g.S.Sources.clock) (calling c.args.given.sources c.end_greeted.result.sources)
    (writing g.W.Write.contents c.args.given.output c.end_greeted.result.output)) (saying g.E.Write.contents g.E.Says.tried c.args.errors.now c.end_greeted.new.errors) c.end_greeted.result.ending))
    (sym c.in-Ok.is) c.end_greeted.ensures

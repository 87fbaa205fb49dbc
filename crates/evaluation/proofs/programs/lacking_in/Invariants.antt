use Rattle.evaluation.proofs.Looking.{Looked}
use Rattle.evaluation.proofs.programs.lacking_in.Given as goal

abbrev pub invariant-loop-session : goal.invariant-loop-session
invariant-loop-session g l = Looked (g.P.Programs.finds l.programs) l.sheet.contents.fields l.ids l.sheet.contents.sessions l.session-iterator

use Rattle.std.proofs.Common.{ap, refl, sym, Err}
use Rattle.script_agenda.specs.Run.{unread}
use Rattle.script_agenda.proofs.Runs.{from_whole}
use Rattle.script_agenda.proofs.running.run.Goals as goal

pub returns-in-Ok-clause-ran : goal.returns-in-Ok-clause-ran
returns-in-Ok-clause-ran g c = from_whole _ _ _ _ _ _ _ (sym c.as_slice.ensures.value) c.in-Ok.ensures.whole c.in-Ok.ensures.short c.run_read.ensures.ran

pub returns-in-Err-clause-ran : goal.returns-in-Err-clause-ran
returns-in-Err-clause-ran g c = unread c.in-Err.fault c.in-Err.ensures.faults (λ is. c.in-Err.ensures.long (ap (λ why. Err why) is)) refl

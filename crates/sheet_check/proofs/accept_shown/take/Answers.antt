use Rattle.sheet_check.specs.inside.Accepting.{not_put}
use Rattle.std.proofs.Common.{refl}
use Rattle.sheet_check.proofs.accept_shown.take.Goals as goal

pub returns-in-Err-clause-err : goal.returns-in-Err-clause-err
returns-in-Err-clause-err g c = not_put c.in-Err.why c.accept_fault.ensures (λ ops more disk stores. c.in-Err.ensures.err ops more disk stores) refl

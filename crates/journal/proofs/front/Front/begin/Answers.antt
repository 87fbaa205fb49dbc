use Rattle.std.proofs.Common.{arith, subst, sym}
use Rattle.disk_model.specs.Disk.{Image}
use Rattle.journal.specs.Front.{ImageHasFront}
use Rattle.journal.proofs.front.Front.begin.Goals as goal

pub returns-in-Ok-clause-found : goal.returns-in-Ok-clause-found
returns-in-Ok-clause-found g c = λ model.
    let found = c.in-Ok.ensures.front model in
    let same = (c.survey_front.ensures.reads.looks model).content in (
      found.0,
      found.1,
      record {
        has = subst (λ (i : Image). ImageHasFront i found.0 c.in-Ok.stop.damaged) (sym same) found.1;
        end_is = found.2;
        gate_is = omega arith;
      },
    )

use Rattle.std.proofs.Common.{arith, refl, subst, sym, IsTrue}
use Rattle.disk_model.specs.Disk.{Image}
use Rattle.disk_model.specs.declared.disk.Area.TheVariants.{First}
use Rattle.journal.specs.Area.{first_gate}
use Rattle.journal.specs.inside.Active.{HasEnd}
use Rattle.journal.proofs.journal.Journal.create.Goals as goal

pub ending_at-requires-clause-inside : goal.ending_at-requires-clause-inside
ending_at-requires-clause-inside g c = λ model1.
    let model = subst IsTrue c.in-Ok.ensures.same.keeps_model model1 in
    subst (λ (i : Image). HasEnd First first_gate i) (sym (c.in-Ok.ensures.bytes model))
    (record { active_is = record { named = refl; headed = omega arith }; within = omega arith })

use Rattle.std.proofs.Common.{List, ℕ, arith, subst}
use Rattle.disk_model.specs.Disk.{bytes_on}
use Rattle.journal.specs.Kept.{Keeps, active_of}
use Rattle.journal.specs.Limits.{longest_payload}
use Rattle.journal.proofs.Unique.{one_list, refused}
use Rattle.journal.proofs.payloads.Opening.begin.Goals as goal

pub returns-in-Ok-clause-exact : goal.returns-in-Ok-clause-exact
returns-in-Ok-clause-exact g c = λ model payloads stands.
    let found = c.in-Ok.ensures.end model in
    let same = one_list longest_payload (omega arith) (active_of (bytes_on (g.D.Disk.view c.args.disk))) found.0 payloads found.1.stands stands.stands in
    record {
      keeps = subst (λ (l : List (List ℕ)). Keeps (g.D.Disk.view c.survey.new.disk).history c.in-Ok.end l) same found.2;
      gate_is = omega arith;
    }

pub returns-in-Err-clause-exact : goal.returns-in-Err-clause-exact
returns-in-Err-clause-exact g c = λ model payloads stands. refused (bytes_on (g.D.Disk.view c.args.disk)) payloads c.in-Err.cause (c.in-Err.ensures.fault model) stands

use Rattle.theorem.specs.Story.{OpenedFrom, a_step}
use Rattle.theorem.proofs.Reported.{at_first, by_step}
use Rattle.theorem.proofs.took_one.Goals as goal

pub returns-clause-lived : goal.returns-clause-lived
returns-clause-lived g c =
    λ model.
    let b = c.in_ok-host.ensures.begun model in
    let begins : OpenedFrom (g.D.Disk.view c.args.disk) c.in_ok-host.host = record { found = b.0; begun = b.1; same = c.in_ok-host.ensures.same; looks = c.in_ok-host.ensures.looks model } in
    record {
      opened = c.in_ok-host.host;
      begins = begins;
      meets = c.stepped-answer.ensures.meets;
      within = at_first (g.D.Disk.view c.args.disk) c.in_ok-host.host begins model _ _ _ (a_step c.args.event c.stepped-answer.result c.stepped-answer.new.host c.stepped-answer.ensures.meets);
      after = by_step (g.D.Disk.view c.args.disk) c.in_ok-host.host c.stepped-answer.new.host begins model c.args.event c.stepped-answer.result c.stepped-answer.ensures.meets c.stepped-answer.ensures.same;
    }

use Rattle.std.proofs.Common.{inl}
use Rattle.theorem.specs.Story.{OpenedFrom, a_group, after_group}
use Rattle.theorem.proofs.Reported.{at_first}
use Rattle.theorem.proofs.took_group.Goals as goal

pub returns-clause-lived : goal.returns-clause-lived
returns-clause-lived g c =
    λ model.
    let b = c.in_ok-opened.ensures.begun model in
    let begins : OpenedFrom (g.D.Disk.view c.args.disk) c.in_ok-opened.opened = record { found = b.0; begun = b.1; same = c.in_ok-opened.ensures.same; looks = c.in_ok-opened.ensures.looks model } in
    record {
      opened = c.in_ok-opened.opened;
      begins = begins;
      meets = c.played_group-answer.ensures;
      within = at_first (g.D.Disk.view c.args.disk) c.in_ok-opened.opened begins model _ _ _
          (a_group c.args.events.items c.played_group-answer.result c.played_group-answer.new.host (inl c.played_group-answer.ensures));
      after = at_first (g.D.Disk.view c.args.disk) c.in_ok-opened.opened begins model _ _ _
          (after_group c.args.events.items c.played_group-answer.result c.played_group-answer.new.host (inl c.played_group-answer.ensures));
    }

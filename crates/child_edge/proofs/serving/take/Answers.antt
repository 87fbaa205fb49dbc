use Rattle.std.proofs.Common.{◌++◌, ap, ◌∙◌}
use Rattle.child_edge.specs.Reported.{reported}
use Rattle.child_edge.proofs.serving.take.Goals as goal

pub returns-in-Err-follow-clause-err : goal.returns-in-Err-follow-clause-err
returns-in-Err-follow-clause-err g c = λ w h.
    let p = c.in-Err-follow.ensures.err w h in
    record {
      entries = p.entries;
      leads = p.leads;
      disk = p.disk;
      failed = p.failed;
      form = (c.in-Ok.event, c.hear.new.children, c.in-Ok.ensures.ok, p.form);
      stopped = p.stopped;
      replied = p.replied ∙ ap (λ x. x ++ reported p.entries) c.reserve.ensures.items;
    }

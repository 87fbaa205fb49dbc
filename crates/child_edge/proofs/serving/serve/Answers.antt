use Rattle.std.proofs.Common.{◌++◌, ap, ◌∙◌}
use Rattle.host_events.specs.declared.event.Event.TheVariants as event
use Rattle.child_edge.specs.Faithful.{at}
use Rattle.child_edge.specs.Reported.{reported}
use Rattle.child_edge.proofs.Timeline.{served_from, served_broke}
use Rattle.child_edge.proofs.serving.serve.Goals as goal

pub returns-in-Ok-clause-ok : goal.returns-in-Ok-clause-ok
returns-in-Ok-clause-ok g c = λ w h.
    let p = c.in-Ok.ensures.ok w h in
    served_from g.C.Children.after (at w c.args.children.now c.args.host.now.store.disk) (event.Command c.args.command) c.follow.new.host c.follow.new.children c.follow.new.replies.items h.stands.images (record {
      entries = p.entries;
      leads = p.leads;
      form = p.form;
      stands = p.stands;
      replied = p.replied ∙ ap (λ x. x ++ reported p.entries) (c.reserve.ensures.items ∙ c.new-replies.ensures.items);
    })

pub returns-in-Err-clause-err : goal.returns-in-Err-clause-err
returns-in-Err-clause-err g c = λ w h.
    let p = c.in-Err.ensures.err w h in
    served_broke g.C.Children.after (at w c.args.children.now c.args.host.now.store.disk) (event.Command c.args.command) c.follow.new.host c.follow.new.children c.follow.new.replies.items c.in-Err.fault h.stands.images (record {
      entries = p.entries;
      leads = p.leads;
      disk = p.disk;
      failed = p.failed;
      form = p.form;
      stopped = p.stopped;
      replied = p.replied ∙ ap (λ x. x ++ reported p.entries) (c.reserve.ensures.items ∙ c.new-replies.ensures.items);
    })

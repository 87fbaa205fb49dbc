use Rattle.std.proofs.Common.{[], append-nil, sym, ◌∙◌}
use Rattle.child_edge.specs.Faithful.{at}
use Rattle.child_edge.proofs.Gates.{carried_alone, carried_on, carried_up_to}
use Rattle.child_edge.proofs.together.carry_one.Goals as goal

pub returns-in-Ok-clause-ok : goal.returns-in-Ok-clause-ok
returns-in-Ok-clause-ok g c = λ w h.
    let k = c.carry_out.ensures in
    let p = c.in-Ok.ensures.ok w h in
    record {
      entries = p.entries;
      leads = p.leads;
      form = carried_on g.C.Children.after c.args.outcome.now w c.args.children.now c.carry_out.new.children c.args.host.now.store.disk k.0 k.1 c.in-Some.event p.entries (at p.leads c.follow.new.children c.follow.new.host.store.disk) (sym k.2 ∙ c.in-Some.is) p.form;
      stands = p.stands;
      replied = p.replied;
    }

pub returns-in-Err-clause-err : goal.returns-in-Err-clause-err
returns-in-Err-clause-err g c = λ w h.
    let k = c.carry_out.ensures in
    let p = c.in-Err.ensures.err w h in
    record {
      entries = p.entries;
      leads = p.leads;
      disk = p.disk;
      failed = p.failed;
      form = carried_up_to g.C.Children.after c.args.outcome.now w c.args.children.now c.carry_out.new.children c.args.host.now.store.disk k.0 k.1 c.in-Some.event p.entries p.failed (at p.leads c.follow.new.children p.disk) (sym k.2 ∙ c.in-Some.is) p.form;
      stopped = p.stopped;
      replied = p.replied;
    }

pub returns-in-None-clause-ok : goal.returns-in-None-clause-ok
returns-in-None-clause-ok g c = λ w h.
    let k = c.carry_out.ensures in
    record {
      entries = [];
      leads = w;
      form = carried_alone g.C.Children.after c.args.outcome.now w c.args.children.now c.carry_out.new.children c.args.host.now.store.disk k.0 k.1 (sym k.2 ∙ c.in-None.is);
      stands = h;
      replied = sym (append-nil c.args.replies.now.items);
    }

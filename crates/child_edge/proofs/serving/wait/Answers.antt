use Rattle.std.proofs.Common.{◌≡◌, true, false, ◌++◌, [], refl, sym, ap, ◌∙◌, subst, arith}
use Rattle.session_engine.specs.Host.{IsHost}
use Rattle.child_edge.specs.Faithful.{at, Waited}
use Rattle.child_edge.specs.Broken.{WaitSoFar}
use Rattle.child_edge.specs.Limits.{most_rounds}
use Rattle.child_edge.proofs.Waits.{reported-join, by_cause}
use Rattle.child_edge.proofs.Stepping.{came_begun, came_so_far}
use Rattle.child_edge.proofs.Timeline.{waited_from, so_far_from, waited_broke}
use Rattle.child_edge.proofs.Faulting.{same-at, same-on}
use Rattle.child_edge.proofs.serving.wait.Goals as goal

pub returns-in_default-clause-err : goal.returns-in_default-clause-err
returns-in_default-clause-err g c = λ w h.
    so_far_from g.C.Children.after most_rounds (at w c.args.children.now c.args.host.now.store.disk) c.args.host.now c.args.children.now c.new-replies.result.items h.stands.images (record {
      entries = [];
      leads = w;
      form = record {
        whole = 0;
        fits = omega arith;
        mid = at w c.args.children.now c.args.host.now.store.disk;
        before = [];
        last = [];
        rounds = (refl, refl);
        part = record { whole = 0; fits = omega arith; are_done = (refl, refl) };
        entries = refl;
      };
      stands = h;
      replied = c.new-replies.ensures.items;
    })

pub loop-replies-init : goal.loop-replies-init
loop-replies-init g c = record {
  same = same-at c.args.host.now.store.disk;
  runs = λ w h. record {
    entries = [];
    leads = w;
    form = came_begun g.C.Children.after c.in-Ok.wait w c.args.children.now c.args.host.now.store.disk (c.in-Ok.ensures.begun w h);
    stands = h;
    replied = c.new-replies.ensures.items;
  };
  still = λ e. (c.in-Ok.ensures.whole, refl, c.new-replies.ensures.items, refl);
}

pub loop-replies-preserved : goal.loop-replies-preserved
loop-replies-preserved g c =
    let yes : c.in-Ok-true.field-0 ≡ true = c.in-Ok-true.field-0-test in
    record {
      same = same-on c.args.host.now.store.disk c.loop-replies.host.store.disk c.next.new.host.store.disk c.loop-replies.invariant.same c.in-Ok-true.ensures.same;
      runs = λ w h.
          let r = c.loop-replies.invariant.runs w h in
          let p = c.in-Ok-true.ensures.took (at w c.args.children.now c.args.host.now.store.disk) r.entries r.leads r.stands r.form yes in
          record {
            entries = r.entries ++ p.entries;
            leads = p.leads;
            form = p.form;
            stands = p.stands;
            replied = reported-join [] c.loop-replies.replies.items c.next.new.replies.items r.entries p.entries r.replied p.replied;
          };
      still = λ e.
          let s = c.loop-replies.invariant.still e in
          let no : c.in-Ok-true.field-0 ≡ false = c.in-Ok-true.ensures.closed (ap (λ h. h.closed) s.1 ∙ e) in
          let both : true ≡ false = sym yes ∙ no in cc;
    }

pub returns-in-Ok-false-clause-ok : goal.returns-in-Ok-false-clause-ok
returns-in-Ok-false-clause-ok g c = λ w h.
    let no : c.in-Ok-false.field-0 ≡ false = c.in-Ok-false.field-0-test in
    let r = c.loop-replies.invariant.runs w h in
    let q = c.in-Ok-false.ensures.over (at w c.args.children.now c.args.host.now.store.disk) r.entries r.leads r.stands r.form no in
    waited_from g.C.Children.after most_rounds (at w c.args.children.now c.args.host.now.store.disk) c.next.new.host c.next.new.children c.next.new.replies.items h.stands.images (record {
      entries = r.entries;
      leads = r.leads;
      form = subst (λ x. Waited g.C.Children.after most_rounds (at w c.args.children.now c.args.host.now.store.disk) r.entries (at r.leads x c.next.new.host.store.disk)) (sym q.2)
          (subst (λ x. Waited g.C.Children.after most_rounds (at w c.args.children.now c.args.host.now.store.disk) r.entries (at r.leads c.loop-replies.children x.store.disk)) (sym q.1) q.0);
      stands = subst (λ x. IsHost x r.leads) (sym q.1) r.stands;
      replied = q.3 ∙ r.replied;
    })

pub returns-in-Err-clause-err : goal.returns-in-Err-clause-err
returns-in-Err-clause-err g c = λ w h.
    let r = c.loop-replies.invariant.runs w h in
    by_cause c.in-Err.cause _ _ _ _ (c.in-Err.ensures.err (at w c.args.children.now c.args.host.now.store.disk) r.entries r.leads r.stands r.form)
    (λ f p. waited_broke g.C.Children.after most_rounds (at w c.args.children.now c.args.host.now.store.disk) c.next.new.host c.next.new.children c.next.new.replies.items f h.stands.images (record {
      entries = r.entries ++ p.entries;
      leads = p.leads;
      disk = p.disk;
      failed = p.failed;
      form = p.form;
      stopped = p.stopped;
      replied = reported-join [] c.loop-replies.replies.items c.next.new.replies.items r.entries p.entries r.replied p.replied;
    }))
    (λ q. so_far_from g.C.Children.after most_rounds (at w c.args.children.now c.args.host.now.store.disk) c.next.new.host c.next.new.children c.next.new.replies.items h.stands.images (record {
      entries = r.entries;
      leads = r.leads;
      form = subst (λ x. WaitSoFar g.C.Children.after most_rounds (at w c.args.children.now c.args.host.now.store.disk) r.entries (at r.leads x c.next.new.host.store.disk)) (sym q.2)
          (subst (λ x. WaitSoFar g.C.Children.after most_rounds (at w c.args.children.now c.args.host.now.store.disk) r.entries (at r.leads c.loop-replies.children x.store.disk)) (sym q.1)
          (came_so_far g.C.Children.after c.next.new.self (at w c.args.children.now c.args.host.now.store.disk) r.entries (at r.leads c.loop-replies.children c.loop-replies.host.store.disk) q.0));
      stands = subst (λ x. IsHost x r.leads) (sym q.1) r.stands;
      replied = q.3 ∙ r.replied;
    }))

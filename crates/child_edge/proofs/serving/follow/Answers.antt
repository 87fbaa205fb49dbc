use Rattle.std.proofs.Common.{◌++◌, ◌≤◌, [], ◌∷◌, Some, refl, sym, ap, ◌∙◌, append-nil, arith}
use Rattle.child_edge.specs.Faithful.{at, due_after}
use Rattle.child_edge.proofs.Chains.{Follows-push, reported-on}
use Rattle.child_edge.specs.inside.Ranks.{rank}
use Rattle.child_edge.proofs.Ranks.{rank-none, rank-most, rank-on, rank-reported}
use Rattle.child_edge.proofs.Faulting.{same-at, same-on}
use Rattle.child_edge.proofs.serving.follow.Goals as goal

pub loop-init : goal.loop-init
loop-init g c = record {
  room = omega arith;
  capacity = refl;
  len = omega arith;
  same = same-at c.args.host.now.store.disk;
  runs = λ w h. ([], w, (refl, refl), h, sym (append-nil c.args.replies.now.items), omega (arith, rank-most c.args.event));
  still = λ e. (refl, refl, refl, refl, refl);
}

pub returns-in_default-clause-ok : goal.returns-in_default-clause-ok
returns-in_default-clause-ok g c = λ w h.
    let r = c.loop.invariant.runs w h in
    record { entries = r.0; leads = r.1; form = rw c.in_default.is at r.2; stands = r.3; replied = r.4 }

pub returns-in-Err-clause-err : goal.returns-in-Err-clause-err
returns-in-Err-clause-err g c = λ w h.
    let r = c.loop.invariant.runs w h in
    let s = c.in-Err.ensures.err r.1 r.3 in
    let due = rw c.in-Some.is at r.2 in
    record {
      entries = r.0;
      leads = r.1;
      disk = c.loop.host.store.disk;
      failed = c.in-Some.event;
      form = rw c.in-Err.ensures.err_children due;
      stopped = s;
      replied = r.4;
    }

pub tell-requires : goal.tell-requires
tell-requires g c = omega (arith, c.loop.invariant.room)

pub loop-preserved : goal.loop-preserved
loop-preserved g c = record {
  room = omega (arith, c.loop.invariant.room, c.tell.ensures.len, c.tell.ensures.capacity);
  capacity = c.tell.ensures.capacity ∙ c.loop.invariant.capacity;
  len = omega (arith, c.loop.invariant.len, c.tell.ensures.len);
  same = same-on c.args.host.now.store.disk c.loop.host.store.disk c.entry.new.host.store.disk c.loop.invariant.same c.in-Ok.ensures.same;
  runs = λ w h.
      let r = c.loop.invariant.runs w h in
      let b = c.in-Ok.ensures.ok r.1 r.3 in
      let due = rw c.in-Some.is at r.2 in
      let less = rank-reported r.1 c.in-Some.event b.2.steps.0 b.0.outcome b.0.answer b.2.steps.1 b.2.steps.2 in (
        r.0 ++ b.0 ∷ [],
        b.1,
        rw b.5 (Follows-push g.C.Children.after (at w c.args.children.now c.args.host.now.store.disk) (Some c.args.event) r.0 c.in-Some.event (at r.1 c.loop.children c.loop.host.store.disk) b.0 (at b.1 c.entry.new.children c.entry.new.host.store.disk) due b.2),
        b.3,
        reported-on c.args.replies.now.items c.loop.replies.items c.tell.new.replies.items r.0 b.0 c.in-Ok.reply r.4 c.tell.ensures.items b.4,
        rank-on c.loop.due c.in-Ok.next (due_after b.0) c.in-Some.event c.loop.counter c.in-Some.is b.5 less r.5,
      );
  still = λ e.
      let s = c.loop.invariant.still e in
      let no = c.in-Ok.ensures.closed (ap (λ h. h.closed) s.2 ∙ e) in cc;
}

pub returns-clause-ok : goal.returns-clause-ok
returns-clause-ok g c = λ w h.
    let r = c.loop.invariant.runs w h in
    let few : rank c.loop.due ≤ 0 = omega (arith, r.5) in
    let none = rank-none c.loop.due few in
    record { entries = r.0; leads = r.1; form = rw none at r.2; stands = r.3; replied = r.4 }

pub returns-in-Err-clause-same : goal.returns-in-Err-clause-same
returns-in-Err-clause-same g c = same-on c.args.host.now.store.disk c.loop.host.store.disk c.entry.new.host.store.disk c.loop.invariant.same c.in-Err.ensures.same

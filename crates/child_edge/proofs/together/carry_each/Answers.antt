use Rattle.std.proofs.Common.{◌≡◌, ◌∙◌, length, refl, subst, arith}
use Rattle.std.proofs.lemmas.Option.{slice_get_read}
use Rattle.child_edge.specs.Edge.{Ran}
use Rattle.child_edge.specs.Faithful.{at}
use Rattle.child_edge.specs.inside.Gating.{CarriedSoFar}
use Rattle.child_edge.proofs.Faulting.{same-at, same-on}
use Rattle.child_edge.proofs.Gates.{none_carried, one_broke, one_carried}
use Rattle.child_edge.proofs.together.carry_each.Goals as goal

pub loop-outcome-init : goal.loop-outcome-init
loop-outcome-init g c = record {
  capacity = refl;
  len = omega arith;
  same = same-at c.args.host.now.store.disk;
  runs = λ w h. none_carried g.C.Children.after c.args.outcomes.now (at w c.args.children.now c.args.host.now.store.disk) c.args.replies.now.items w c.args.host.now c.args.children.now h refl;
}

pub carry_one-requires : goal.carry_one-requires
carry_one-requires g c = let so = c.loop-outcome.invariant in omega (arith, c.requires, so.capacity, so.len, c.loop-outcome-test.true)

pub returns-in-Err-clause-same : goal.returns-in-Err-clause-same
returns-in-Err-clause-same g c = same-on c.args.host.now.store.disk c.loop-outcome.host.store.disk c.carry_one.new.host.store.disk c.loop-outcome.invariant.same c.in-Err.ensures.same

pub returns-in-Err-clause-err : goal.returns-in-Err-clause-err
returns-in-Err-clause-err g c = λ w h.
    let so = c.loop-outcome.invariant.runs w h in
    let is = slice_get_read c.args.outcomes.now (length c.args.outcomes.now) c.loop-outcome.outcome-index c.outcome-item.result refl c.loop-outcome-test.true c.outcome-item.is in
    one_broke g.C.Children.after c.args.outcomes.now (at w c.args.children.now c.args.host.now.store.disk) c.args.replies.now.items c.loop-outcome.outcome-index c.outcome-item.result
    c.loop-outcome.host c.carry_one.new.host c.loop-outcome.children c.carry_one.new.children c.loop-outcome.replies.items c.carry_one.new.replies.items so is c.in-Err.fault (c.in-Err.ensures.err so.leads so.stands)

pub loop-outcome-preserved : goal.loop-outcome-preserved
loop-outcome-preserved g c = record {
  capacity = c.carry_one.ensures.capacity ∙ c.loop-outcome.invariant.capacity;
  len = omega (arith, c.loop-outcome.invariant.len, c.carry_one.ensures.len);
  same = same-on c.args.host.now.store.disk c.loop-outcome.host.store.disk c.carry_one.new.host.store.disk c.loop-outcome.invariant.same c.in_default.ensures.same;
  runs = λ w h.
      let so = c.loop-outcome.invariant.runs w h in
      let is = slice_get_read c.args.outcomes.now (length c.args.outcomes.now) c.loop-outcome.outcome-index c.outcome-item.result refl c.loop-outcome-test.true c.outcome-item.is in
      one_carried g.C.Children.after c.args.outcomes.now (at w c.args.children.now c.args.host.now.store.disk) c.args.replies.now.items c.loop-outcome.outcome-index c.outcome-item.result
      c.loop-outcome.host c.carry_one.new.host c.loop-outcome.children c.carry_one.new.children c.loop-outcome.replies.items c.carry_one.new.replies.items so is (c.in_default.ensures.ok so.leads so.stands);
}

pub returns-clause-same : goal.returns-clause-same
returns-clause-same g c = c.loop-outcome.invariant.same

pub returns-clause-ok : goal.returns-clause-ok
returns-clause-ok g c = λ w h.
    let all : c.loop-outcome.outcome-index ≡ length c.args.outcomes.now = omega (arith, c.loop-outcome-test.false, c.loop-outcome.auto.outcome-index-end) in
    subst
    (λ k. Ran (CarriedSoFar g.C.Children.after c.args.outcomes.now k (at w c.args.children.now c.args.host.now.store.disk)) c.args.replies.now.items c.loop-outcome.host c.loop-outcome.children c.loop-outcome.replies.items)
    all (c.loop-outcome.invariant.runs w h)

use Rattle.std.proofs.Common.{◌≡◌, ◌+◌, [], ◌∷◌, ◌++◌, take, arith}
use Rattle.std.proofs.lemmas.Grind.{common_steps}
use Rattle.journal_tests.proofs.Batches.{none_yet, run_on, appended_on}
use Rattle.journal_tests.proofs.tests.batches.append_all.Goals as goal

pub loop-frame-init : goal.loop-frame-init
loop-frame-init g c = none_yet _ _

pub returns-in-Err-clause-any_moment : goal.returns-in-Err-clause-any_moment
returns-in-Err-clause-any_moment g c =
    let next : take (c.loop-frame.frame-index + 1) c.args.frames.now ≡ take c.loop-frame.frame-index c.args.frames.now ++ c.frame-item.result ∷ [] = grind (arith, common_steps, c.frame-item.is) in
    run_on _ _ _ _ c.loop-frame.invariant _ next c.loop-frame-test.true _ c.in-Err.ensures.any_moment

pub loop-frame-preserved : goal.loop-frame-preserved
loop-frame-preserved g c =
    let next : take (c.loop-frame.frame-index + 1) c.args.frames.now ≡ take c.loop-frame.frame-index c.args.frames.now ++ c.frame-item.result ∷ [] = grind (arith, common_steps, c.frame-item.is) in
    appended_on _ _ _ _ c.loop-frame.invariant _ next c.loop-frame-test.true c.in-Ok.after c.in-Ok.ensures.same c.in-Ok.ensures.ok c.in-Ok.ensures.any_moment

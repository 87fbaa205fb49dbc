use Rattle.std.proofs.Common.{◌≡◌, ◌+◌, [], ◌∷◌, ◌++◌, ◌∙◌, take, arith}
use Rattle.std.proofs.lemmas.Grind.{common_steps}
use Rattle.disk_model.proofs.Drawn.{drawn_on}
use Rattle.disk_model.proofs.crash.area_image.Goals as goal

pub loop-call-preserved : goal.loop-call-preserved
loop-call-preserved c = record {
  level = c.in_ok-follow.ensures.level;
  fill = c.follow.ensures.fill ∙ c.loop-call.invariant.fill;
  draws = λ h start.
      let next : take (c.loop-call.call-index + 1) c.args.calls.now ≡ take c.loop-call.call-index c.args.calls.now ++ c.call-item.result ∷ [] = grind (arith, common_steps, c.call-item.is) in
      drawn_on _ _ _ h _ _ _ next c.in_ok-follow.ensures.draws (c.loop-call.invariant.draws h start);
}

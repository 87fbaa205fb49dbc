use Rattle.std.proofs.Common.{◌+◌, ◌<◌, ap, sym, ◌∙◌, subst, take, List}
use Rattle.serde_json.specs.declared.value.Value.{Value}
use Rattle.sheet_json.specs.Objects.{lost_data}
use Rattle.sheet_json.proofs.Lists.{AreOf, none_found, one_found}
use Rattle.sheet_json.proofs.events.losts_value.Goals.{in-Some+in_ok-value+in_ok-push, in_default}
use Rattle.sheet_json.proofs.events.losts_value.Goals as goal

pub loop-place-preserved : goal.loop-place-preserved
loop-place-preserved c = elim c.match-get.branch [
  | in-Some+in_ok-value+in_ok-push w ↦ one_found lost_data c.loop-place.values.items c.match-get.values.items w.in_ok-value.value c.args.lost.now c.loop-place.place w.in-Some.item.now
      (subst (λ n. c.loop-place.place < n) c.len-place-end.ensures c.loop-place-test.true) w.in-Some.ensures c.loop-place.invariant w.in_ok-value.ensures (ap (λ v. v.items) w.values-is ∙ w.in_ok-push.ensures.items)
  | in_default w ↦ subst (λ (vs : List Value). AreOf lost_data vs (take (c.loop-place.place + 1) c.args.lost.now)) (sym (ap (λ v. v.items) w.values-is))
      (none_found lost_data c.loop-place.values.items c.args.lost.now c.loop-place.place (subst (λ n. c.loop-place.place < n) c.len-place-end.ensures c.loop-place-test.true) w.in_default.ensures)
]

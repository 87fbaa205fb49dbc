use Rattle.std.proofs.Common.{◌≡◌, ◌∙◌, ap, rules}
use Rattle.std.proofs.lemmas.Result.{IfOk-weaker}
use Rattle.evaluation.specs.Rounds.{by_rounds, placed_ids}
use Rattle.std.proofs.lemmas.List.Sorted.{IsNonDecreasingBy-from_sort_by_key, answers_always}
use Rattle.evaluation.proofs.InRounds.{sorted_by_rounds}
use Rattle.evaluation.proofs.rounds.by_rounds.Goals as goal

pub returns : goal.returns
returns c =
    let by = IsNonDecreasingBy-from_sort_by_key (λ p. p.round) c.sort_by_key.new.self.items c.in_ok-sort_by_key.ensures.sorted (λ a r q k. search rules) in
    let stable = c.sort_by_key.ensures.stable (λ p. p.round) (answers_always _ _ _ (λ f a r g h. search rules)) in
    let order = sorted_by_rounds c.args.sheet.now.contents.fields c.args.ids.now c.in_ok-all.all.items c.sort_by_key.new.self.items c.in_ok-all.ensures c.sort_by_key.ensures.permutation by stable in
    IfOk-weaker c.placed_ids.result (λ ids. ids.items ≡ placed_ids c.as_slice.result.now)
    (λ order. order.items ≡ by_rounds c.args.sheet.now.contents.fields c.args.ids.now)
    (λ ids is. is ∙ ap placed_ids c.as_slice.ensures.value ∙ order) c.placed_ids.ensures

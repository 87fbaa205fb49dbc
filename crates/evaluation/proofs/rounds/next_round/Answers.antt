use Rattle.std.proofs.Common.{◌≡◌, ◌+◌, ◌-◌, ◌∙◌, ap, sym, subst, take, arith, length}
use Rattle.evaluation.specs.Rounds.{count_of, placed_ids, is_field_of}
use Rattle.evaluation.proofs.InRounds.{all_others, another, last_of, round_low}
use Rattle.evaluation.proofs.rounds.next_round.Goals as goal

pub loop-at-init : goal.loop-at-init
loop-at-init c = all_others c.args.sheet.now.contents.fields c.args.session c.args.all.now (length c.args.all.now) (omega arith)

pub overflow_add-result : goal.overflow_add-result
overflow_add-result c =
    let low = round_low c.args.sheet.now.contents.fields c.args.session c.args.all.now c.requires (c.loop-at.at - 1) c.placed_at-last.result c.placed_at-last.ensures in
    grind (arith, low)

pub returns-then-is_field_of : goal.returns-then-is_field_of
returns-then-is_field_of c = last_of c.args.sheet.now.contents.fields c.args.session c.args.all.now c.requires
    (c.loop-at.at - 1) c.placed_at-last.result c.placed_at-last.ensures
    (ap (is_field_of c.args.session) (sym c.field.ensures) ∙ sym c.is_field_of.ensures ∙ c.if-is_field_of.true)
    (let here : c.loop-at.at ≡ c.loop-at.at - 1 + 1 = grind (arith) in subst
    (λ n. count_of c.args.sheet.now.contents.fields c.args.session
    (take n (placed_ids c.args.all.now)) ≡ count_of c.args.sheet.now.contents.fields c.args.session (placed_ids c.args.all.now)) here c.loop-at.invariant)

pub loop-at-preserved : goal.loop-at-preserved
loop-at-preserved c = another c.args.sheet.now.contents.fields c.args.session c.args.all.now c.requires
    (c.loop-at.at - 1) c.placed_at-last.result c.placed_at-last.ensures
    (ap (is_field_of c.args.session) (sym c.field.ensures) ∙ sym c.is_field_of.ensures ∙ c.if-is_field_of.false)
    (let here : c.loop-at.at ≡ c.loop-at.at - 1 + 1 = grind (arith) in subst
    (λ n. count_of c.args.sheet.now.contents.fields c.args.session
    (take n (placed_ids c.args.all.now)) ≡ count_of c.args.sheet.now.contents.fields c.args.session (placed_ids c.args.all.now)) here c.loop-at.invariant)

use Rattle.std.proofs.Common.{◌≡◌, ◌∙◌, ◌+◌, ◌++◌, ◌∷◌, [], List, ℕ, ap, arith, drop, length, length-append, sym}
use Rattle.field_agenda.specs.Together.{goes_with, with_those_that_go}
use Rattle.field_agenda.proofs.Groups.{begins, no_more, one_more}
use Rattle.field_agenda.proofs.asking.group_from.Goals as goal

pub loop-at-init : goal.loop-at-init
loop-at-init g c =
    let id = c.id_at.result in
    let first : c.push.new.self.items ≡ id ∷ [] = c.in_ok-push.ensures.items ∙ ap (λ (l : List ℕ). l ++ id ∷ []) c.new-group.ensures.items in
    let long = ap length first in
    record {
      group = λ w x h there. begins (goes_with c.args.grouping.now.plan.now w c.args.grouping.now.lasts.now) c.args.ids.now c.push.new.self.items c.args.from id x first c.id_at.ensures there;
      few = omega (arith, long);
    }

pub loop-at-preserved : goal.loop-at-preserved
loop-at-preserved g c =
    let group = c.loop-at.group.items in
    let id = c.id_at-id.result in
    let ids = c.args.ids.now in
    let more = c.in_ok-push-2.ensures.items in
    let long = ap length more in
    let shown = ap length c.as_slice.ensures.value in
    let few = c.goes_with.ensures.few c.if-not-goes_with.false in
    record {
      group = λ w x h there.
          let goes = goes_with c.args.grouping.now.plan.now w c.args.grouping.now.lasts.now in
          ap (λ (l : List ℕ). with_those_that_go goes l (drop (c.loop-at.at + 1) ids)) more
          ∙ one_more goes group ids c.loop-at.at id c.id_at-id.ensures (ap (λ (l : List ℕ). goes l id) (sym c.as_slice.ensures.value) ∙ sym (c.goes_with.ensures.goes w h) ∙ c.if-not-goes_with.false)
          ∙ c.loop-at.invariant.group w x h there;
      few = omega (arith, long, shown, few, length-append group (id ∷ []));
    }

pub returns-then-not-goes_with-clause-group : goal.returns-then-not-goes_with-clause-group
returns-then-not-goes_with-clause-group g c = λ w x h there.
    let group = c.loop-at.group.items in
    let id = c.id_at-id.result in
    let goes = goes_with c.args.grouping.now.plan.now w c.args.grouping.now.lasts.now in
    no_more goes group c.args.ids.now c.loop-at.at id c.id_at-id.ensures (ap (λ (l : List ℕ). goes l id) (sym c.as_slice.ensures.value) ∙ sym (c.goes_with.ensures.goes w h) ∙ c.if-not-goes_with.true)
    ∙ c.loop-at.invariant.group w x h there

use Rattle.std.proofs.Common.{◌≡◌, ◌++◌, ◌∷◌, [], ℕ, List, append-nil, sym, ◌∙◌, ap, arith}
use Rattle.recovery.specs.inside.Afters.{last_below}
use Rattle.recovery.proofs.InFront.{dropped, in_front_of, put_after}
use Rattle.recovery.proofs.afters.put_number.Goals as goal

pub returns-then-last-id-clause-front : goal.returns-then-last-id-clause-front
returns-then-last-id-clause-front c =
    in_front_of c.args.id c.in-Some.last c.args.smaller.now.items c.loop-last.smaller.items c.pop.new.self.items c.loop-last.invariant c.in-Some.ensures.items (omega (arith, c.if-last-id.true))

pub returns-then-last-id-clause-following : goal.returns-then-last-id-clause-following
returns-then-last-id-clause-following c = λ other.
    let kept = c.in_ok-push.ensures.items ∙ sym c.in-Some.ensures.items in
    ap (λ (l : List ℕ). last_below 0 other l) (c.in_ok-push-2.ensures.items ∙ ap (λ (l : List ℕ). l ++ c.args.id ∷ []) kept)
    ∙ put_after c.args.id c.args.smaller.now.items c.loop-last.smaller.items c.loop-last.invariant other

pub loop-last-preserved : goal.loop-last-preserved
loop-last-preserved c =
    dropped c.args.id c.in-Some.last c.args.smaller.now.items c.loop-last.smaller.items c.pop.new.self.items c.loop-last.invariant c.in-Some.ensures.items (omega (arith, c.if-last-id.false))

pub returns-clause-following : goal.returns-clause-following
returns-clause-following c = λ other.
    let none : c.pop.new.self.items ≡ c.loop-last.smaller.items = sym (c.in_default.ensures.items ∙ append-nil c.pop.new.self.items) in
    ap (λ (l : List ℕ). last_below 0 other l) (c.in_ok-push-3.ensures.items ∙ ap (λ (l : List ℕ). l ++ c.args.id ∷ []) none)
    ∙ put_after c.args.id c.args.smaller.now.items c.loop-last.smaller.items c.loop-last.invariant other

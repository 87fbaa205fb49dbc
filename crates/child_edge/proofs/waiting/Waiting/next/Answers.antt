use Rattle.std.proofs.Common.{◌≡◌, ◌<◌, sym, ◌∙◌, subst, refl, length, rules, arith}
use Rattle.std.proofs.lemmas.List.{nil_from_length}
use Rattle.child_edge.specs.Faithful.{at}
use Rattle.child_edge.specs.Limits.{most_rounds}
use Rattle.child_edge.specs.Steps.{Came}
use Rattle.child_edge.proofs.Stepping.{came_idle, came_last, came_quiet, came_next}
use Rattle.child_edge.proofs.Waits.{by_cause}
use Rattle.child_edge.proofs.waiting.Waiting.next.Goals as goal

pub returns-in-Ok-clause-took : goal.returns-in-Ok-clause-took
returns-in-Ok-clause-took g c = λ s bs w h came yes. c.in-Ok.ensures.ok s bs w h came

pub returns-in-Err-clause-err : goal.returns-in-Err-clause-err
returns-in-Err-clause-err g c = λ s bs w h came.
    by_cause c.in-Err.cause _ _ _ _ (c.in-Err.ensures.err s bs w h came)
    (λ f p. p)
    (λ q. (subst (λ x. Came g.C.Children.after x s bs (at w c.args.children.now c.args.host.now.store.disk)) (sym c.in-Err.ensures.stays) came, q.0, q.1, q.2))

pub returns-then-is_empty-clause-over : goal.returns-then-is_empty-clause-over
returns-then-is_empty-clause-over g c = λ s bs w h came no.
    let zero : length c.args.self.now.seats.items ≡ 0 = search rules in
    (came_idle g.C.Children.after c.args.self.now s bs (at w c.args.children.now c.args.host.now.store.disk) came (nil_from_length c.args.self.now.seats.items zero), refl, refl, refl)

pub returns-then-self-ge-MOST_ROUNDS-clause-over : goal.returns-then-self-ge-MOST_ROUNDS-clause-over
returns-then-self-ge-MOST_ROUNDS-clause-over g c = λ s bs w h came no.
    let all : c.args.self.now.place ≡ length c.args.self.now.seats.items = omega (arith, came.place, c.args.self.now.seats.ok.0) in
    let last : c.args.self.now.whole ≡ most_rounds = omega (arith, came.fits) in
    (came_last g.C.Children.after c.args.self.now s bs (at w c.args.children.now c.args.host.now.store.disk) came all last, refl, refl, refl)

pub returns-then-is_empty-2-clause-over : goal.returns-then-is_empty-2-clause-over
returns-then-is_empty-2-clause-over g c = λ s bs w h came no.
    let all : c.args.self.now.place ≡ length c.args.self.now.seats.items = omega (arith, came.place, c.args.self.now.seats.ok.0) in
    let few : c.args.self.now.whole < most_rounds = omega arith in
    let zero : length c.in-Ok-waiting.seats.items ≡ 0 = search rules in
    let none = sym (c.in-Ok-waiting.ensures w h) ∙ nil_from_length c.in-Ok-waiting.seats.items zero in
    (came_quiet g.C.Children.after c.args.self.now s bs (at w c.args.children.now c.args.host.now.store.disk) came all few none, refl, refl, refl)

pub returns-in-Ok-hear_next-clause-took : goal.returns-in-Ok-hear_next-clause-took
returns-in-Ok-hear_next-clause-took g c = λ s bs w h came yes.
    let all : c.args.self.now.place ≡ length c.args.self.now.seats.items = omega (arith, came.place, c.args.self.now.seats.ok.0) in
    let few : c.args.self.now.whole < most_rounds = omega arith in
    c.in-Ok-hear_next.ensures.ok s bs w h
    (came_next g.C.Children.after c.args.self.now s bs (at w c.args.children.now c.args.host.now.store.disk) came _ all few refl refl (c.in-Ok-waiting.ensures w h))

pub returns-in-Err-hear_next-clause-err : goal.returns-in-Err-hear_next-clause-err
returns-in-Err-hear_next-clause-err g c = λ s bs w h came.
    let all : c.args.self.now.place ≡ length c.args.self.now.seats.items = omega (arith, came.place, c.args.self.now.seats.ok.0) in
    let few : c.args.self.now.whole < most_rounds = omega arith in
    by_cause c.in-Err-hear_next.cause _ _ _ _
    (c.in-Err-hear_next.ensures.err s bs w h
    (came_next g.C.Children.after c.args.self.now s bs (at w c.args.children.now c.args.host.now.store.disk) came _ all few refl refl (c.in-Ok-waiting.ensures w h)))
    (λ f p. p)
    (λ q. (
      subst (λ x. Came g.C.Children.after x s bs (at w c.args.children.now c.args.host.now.store.disk)) (sym c.in-Err-hear_next.ensures.stays)
          (came_next g.C.Children.after c.args.self.now s bs (at w c.args.children.now c.args.host.now.store.disk) came _ all few refl refl (c.in-Ok-waiting.ensures w h)),
      q.0,
      q.1,
      q.2,
    ))

pub returns-in-Ok-hear_next-clause-less : goal.returns-in-Ok-hear_next-clause-less
returns-in-Ok-hear_next-clause-less g c = λ e.
    let few : c.args.self.now.whole < most_rounds = omega arith in
    omega (arith, few, c.in-Ok-hear_next.ensures.less, c.in-Ok-waiting.seats.small, c.in-Ok-waiting.seats.ok.0, c.in-Ok-waiting.seats.ok.1)

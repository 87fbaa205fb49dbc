use Rattle.std.proofs.Common.{◌≡◌, ◌++◌, List, ℕ, drop, ◌+◌, length, ap, refl, sym, subst, ◌∙◌, arith, IsTrue}
use Rattle.disk_model.specs.Disk.{bytes_on}
use Rattle.journal.specs.Area.{record_of}
use Rattle.journal.specs.Front.{FrontView, HasGivenFront}
use Rattle.journal.specs.inside.Standing.{at_active}
use Rattle.journal.proofs.Givens.{given_in_front, next_left, none_left, of_front}
use Rattle.journal.proofs.front.Front.next.Goals as goal

pub returns-then-end-gate-lt6-clause-given : goal.returns-then-end-gate-lt6-clause-given
returns-then-end-gate-lt6-clause-given g c = λ model given left has.
    let f : FrontView = record { disk = g.D.Disk.view c.self.inside.disk; gate = c.self.inside.gate; end = c.self.inside.end; damaged = c.self.inside.damaged } in
    let inside : HasGivenFront f given left = subst (λ (v : FrontView). HasGivenFront v given left) (sym c.self.view_is) has in
    none_left _ _ _ given left (of_front f given left inside) (omega (arith, c.if-end-gate-lt6.true))

pub returns-in-Ok-clause-given : goal.returns-in-Ok-clause-given
returns-in-Ok-clause-given g c = λ model given left has.
    let f : FrontView = record { disk = g.D.Disk.view c.self.inside.disk; gate = c.self.inside.gate; end = c.self.inside.end; damaged = c.self.inside.damaged } in
    let inside : HasGivenFront f given left = subst (λ (v : FrontView). HasGivenFront v given left) (sym c.self.view_is) has in
    let model1 = subst (λ (v : FrontView). IsTrue v.disk.keeps_model) (sym c.self.view_is) model in
    let next = next_left _ _ _ given left (of_front f given left inside) (omega (arith, c.if-end-gate-lt6.false)) in
    let read = c.in-Ok.ensures.bytes model1 next.payload next.rest next.is_payload next.some next.fits (subst (λ (l : List ℕ). drop c.self.inside.gate l ≡ record_of next.payload ++ next.rest) (at_active c.self.inside.window.area (bytes_on (g.D.Disk.view c.self.inside.disk)) (c.self.invariant.3 model1).0.named) next.here) in
    let new : FrontView = record { disk = g.D.Disk.view c.payload_at.new.disk; gate = c.self.inside.gate + 5 + c.len.result; end = c.self.inside.end; damaged = c.self.inside.damaged } in
    given_in_front f new given left c.from_vec-bytes.result inside next (c.from_vec-bytes.ensures ∙ read) (c.payload_at.ensures.reads.looks model1) refl refl
    (omega (arith, c.len.ensures, c.in-Ok.bytes.ok.0, ap length c.from_vec-bytes.ensures))

use Rattle.std.proofs.Common.{◌≡◌, ◌++◌, List, ℕ, drop, ◌+◌, length, ap, refl, sym, subst, ◌∙◌, arith, IsTrue}
use Rattle.disk_model.specs.Disk.{bytes_on}
use Rattle.journal.specs.Area.{record_of}
use Rattle.journal.specs.Kept.{JournalView, Keeps}
use Rattle.journal.specs.Opening.{HasGiven, OpeningView}
use Rattle.journal.specs.inside.Standing.{at_active}
use Rattle.journal.proofs.Givens.{all_given, given_on, next_left, none_left, of_opening}
use Rattle.journal.proofs.payloads.Opening.next.Goals as goal

pub returns-then-end-gate-lt6-clause-given : goal.returns-then-end-gate-lt6-clause-given
returns-then-end-gate-lt6-clause-given g c = λ model given left has.
    let o : OpeningView = record { disk = g.D.Disk.view c.self.inside.disk; gate = c.self.inside.gate; end = c.self.inside.end } in
    let inside : HasGiven o given left = subst (λ (v : OpeningView). HasGiven v given left) (sym c.self.view_is) has in
    let none = none_left _ _ _ given left (of_opening o given left inside) (omega (arith, c.if-end-gate-lt6.true)) in
    (none, subst (λ (j : JournalView). Keeps j.disk.history j.end given) (sym c.ending_at.ensures) (all_given o given left inside none))

pub returns-in-Ok-clause-given : goal.returns-in-Ok-clause-given
returns-in-Ok-clause-given g c = λ model given left has.
    let o : OpeningView = record { disk = g.D.Disk.view c.self.inside.disk; gate = c.self.inside.gate; end = c.self.inside.end } in
    let inside : HasGiven o given left = subst (λ (v : OpeningView). HasGiven v given left) (sym c.self.view_is) has in
    let model1 = subst (λ (v : OpeningView). IsTrue v.disk.keeps_model) (sym c.self.view_is) model in
    let next = next_left _ _ _ given left (of_opening o given left inside) (omega (arith, c.if-end-gate-lt6.false)) in
    let read = c.in-Ok.ensures.bytes model1 next.payload next.rest next.is_payload next.some next.fits (subst (λ (l : List ℕ). drop c.self.inside.gate l ≡ record_of next.payload ++ next.rest) (at_active c.self.inside.window.area (bytes_on (g.D.Disk.view c.self.inside.disk)) (c.self.invariant.3 model1).0.named) next.here) in
    let new : OpeningView = record { disk = g.D.Disk.view c.payload_at.new.disk; gate = c.self.inside.gate + 5 + c.len.result; end = c.self.inside.end } in
    given_on o new given left c.from_vec-bytes.result inside next (c.from_vec-bytes.ensures ∙ read) (c.payload_at.ensures.reads.looks model1) refl
    (omega (arith, c.len.ensures, c.in-Ok.bytes.ok.0, ap length c.from_vec-bytes.ensures))

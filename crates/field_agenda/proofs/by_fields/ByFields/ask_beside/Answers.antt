use Rattle.std.proofs.Common.{List, ℕ, get_or, inr, refl, subst, sym}
use Rattle.session_engine.specs.Host.{HostView, IsHost}
use Rattle.evaluation.specs.Beside.{NoneJoins}
use Rattle.field_agenda.specs.Says.{asks}
use Rattle.field_agenda.proofs.Choices.{joins_there, read_at}
use Rattle.field_agenda.proofs.by_fields.ByFields.ask_beside.Goals as goal

pub returns-in-Some : goal.returns-in-Some
returns-in-Some g c = λ w h.
    let a = c.args.self.now in
    let at = c.in-Some.at in
    let id = get_or a.ids at 0 in
    let there = read_at c.as_slice.result.now a.ids at c.as_slice.ensures c.in-Some.ensures.within in
    let next = joins_there a.plan w c.as_slice.result.now a.ids a.stand at id c.as_slice.ensures (c.in-Some.ensures.next w id (subst (λ (v : HostView). IsHost v w) (sym c.looks.ensures) h)) there in
    asks at id (next.0, inr next.1) (c.ask.ensures w id h there)

pub returns-in-None : goal.returns-in-None
returns-in-None g c = λ w h.
    let a = c.args.self.now in
    c.go_on.ensures w h (subst (λ (l : List ℕ). NoneJoins a.plan w l a.stand) c.as_slice.ensures (c.in-None.ensures.none w (subst (λ (v : HostView). IsHost v w) (sym c.looks.ensures) h) refl))

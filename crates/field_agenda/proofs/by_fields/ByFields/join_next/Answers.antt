use Rattle.std.proofs.Common.{ℕ, get_or, refl}
use Rattle.session_engine.specs.declared.joining.Joined.{Joined}
use Rattle.field_agenda.specs.Joins.{JoinsFrom}
use Rattle.field_agenda.proofs.Choices.{at_place, read_at}
use Rattle.field_agenda.proofs.by_fields.ByFields.join_next.Goals as goal

pub returns-in-Some-clause-joins : goal.returns-in-Some-clause-joins
returns-in-Some-clause-joins g c = λ w h.
    let a = c.args.self.now in
    let at = c.in-Some.at in
    let id = get_or a.ids at 0 in
    let there = read_at a.ids a.ids at refl c.in-Some.ensures.within in
    at_place c.join_from.result (λ (x : Joined). JoinsFrom a w at id (x.first, x.events.items) c.join_from.new.self)
    (λ (x : Joined). (k : ℕ) × (n : ℕ) × JoinsFrom a w k n (x.first, x.events.items) c.join_from.new.self)
    (λ x so. (at, id, so)) (c.join_from.ensures.joins w id h there (c.in-Some.ensures.may w id h there))

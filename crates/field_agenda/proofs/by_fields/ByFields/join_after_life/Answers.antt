use Rattle.field_agenda.specs.Joins.{some_join}
use Rattle.field_agenda.proofs.by_fields.ByFields.join_after_life.Goals as goal

pub returns-in-Some-clause-joins : goal.returns-in-Some-clause-joins
returns-in-Some-clause-joins g c = λ w h.
    let j = c.in-Some.ensures.joins w h in
    some_join c.go_on-self.result j.0 j.1 (c.may_join.ensures.life c.if-not-may_join.false) (c.may_join.ensures.due c.if-not-may_join.false) (c.go_on-self.ensures w h) j.2

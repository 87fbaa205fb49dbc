use Rattle.std.proofs.Common.{◌∙◌, ap, subst, sym}
use Rattle.std.specs.Prelude.{Ok}
use Rattle.line_agenda.specs.Matters.{others}
use Rattle.driver.specs.declared.action.Action.TheVariants as action
use Rattle.field_agenda.specs.declared.stage.FieldDoing.TheVariants as doing
use Rattle.field_agenda.specs.Says.{GoesUnheard, goes_unheard, hears}
use Rattle.field_agenda.specs.Standing.{does_now}
use Rattle.field_agenda.proofs.by_fields.ByFields.next_counted.Goals as goal

pub returns-in-Some : goal.returns-in-Some
returns-in-Some g c = λ w h.
    let still = c.take_due.ensures.stands in
    let seat = c.in-Some.seat in
    hears seat (sym c.in-Some.ensures.due) (ap Ok (c.hear.ensures.action ∙ ap (λ a. action.Hear seat (others a.plan.strict)) still)) (c.hear.ensures.stands ∙ ap (λ a. does_now a doing.Life) still)

pub returns-in-None : goal.returns-in-None
returns-in-None g c = λ w h.
    goes_unheard (sym c.in-None.ensures.due) (subst (λ a. GoesUnheard a w c.args.now c.go_unheard.result c.go_unheard.new.self) c.take_due.ensures.stands (c.go_unheard.ensures w h))

use Rattle.std.proofs.Common.{◌∙◌, ap, refl, subst, sym}
use Rattle.driver.specs.declared.report.Show.TheVariants as show
use Rattle.driver.specs.declared.action.Action.TheVariants as action
use Rattle.tellings.specs.declared.note.Note.TheVariants as note
use Rattle.line_agenda.specs.LinesAt.{after_end, lines_stand, with_transaction}
use Rattle.line_agenda.specs.Taking.{EndsInput}
use Rattle.line_agenda.proofs.by_lines.ByLines.end_input.Goals as goal

pub returns-in-None : goal.returns-in-None
returns-in-None g c =
    let before = lines_stand g.R.Read.remaining c.args.self.now in
    let none = sym c.take.ensures.value ∙ c.in-None.is in
    subst (λ b. EndsInput b before action.End (with_transaction before c.take.new.self)) (sym none) (refl, ap (λ b. with_transaction before b) (c.take.ensures.after ∙ sym none))

pub returns-in-Some : goal.returns-in-Some
returns-in-Some g c =
    let before = lines_stand g.R.Read.remaining c.args.self.now in
    let some = sym c.take.ensures.value ∙ c.in-Some.is in
    subst (λ b. EndsInput b before (action.Show (show.Note (note.Undone c.in-Some.transaction.first before.number))) (with_transaction (after_end before) c.take.new.self)) (sym some)
    (refl, ap (λ b. with_transaction (after_end before) b) c.take.ensures.after)

use Rattle.std.proofs.Common.{◌∙◌, ap, refl, sym, true}
use Rattle.std.specs.Prelude.{Ok, ◌&&◌}
use Rattle.live.specs.Saying.{stop_if}
use Rattle.line_agenda.specs.declared.doing.Doing.TheVariants as doing
use Rattle.line_agenda.specs.Waits.{warned}
use Rattle.line_agenda.specs.LinesAt.{doing_now, holding, lines_stand, with_late}
use Rattle.line_agenda.specs.Says.{first_of, of_none, unlisted}
use Rattle.line_agenda.proofs.by_lines.ByLines.limit.Goals as goal

pub returns-in_default : goal.returns-in_default
returns-in_default g c = λ w none h. unlisted refl refl

pub returns-in-Some : goal.returns-in-Some
returns-in-Some g c = λ w none h.
    first_of c.in-Some.seat c.next_late.new.self.late.items (sym (c.in-Ok.ensures w h) ∙ c.in-Some.ensures.some) (ap Ok c.warn.ensures.action)
    (c.warn.ensures.stands ∙ ap (λ a. doing_now a (doing.Warning c.in-Some.seat)) c.next_late.ensures.stands)

pub returns-in-None : goal.returns-in-None
returns-in-None g c = λ w none h.
    let before = lines_stand g.R.Read.remaining c.args.self.now in
    of_none (sym (c.in-Ok.ensures w h) ∙ c.in-None.ensures.none.0) (ap Ok c.give_respite.ensures.action)
    (c.give_respite.ensures.stands
    ∙ ap (λ a. holding a (stop_if (a.manner.strict && true) (warned c.args.now)))
    (c.next_late.ensures.stands ∙ ap (λ late. with_late before late) (c.in-None.ensures.none.1 ∙ sym none)))

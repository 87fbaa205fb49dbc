use Rattle.std.proofs.Common.{◌∙◌, ap, subst, sym}
use Rattle.std.specs.Prelude.{Ok}
use Rattle.line_agenda.specs.declared.doing.Doing.TheVariants as doing
use Rattle.line_agenda.specs.LinesAt.{doing_now, heeded, lines_stand, with_late}
use Rattle.line_agenda.specs.Says.{IsAbout, SaysMatter, says, warns}
use Rattle.line_agenda.proofs.by_lines.ByLines.next_action.Goals as goal

pub returns-in-Some : goal.returns-in-Some
returns-in-Some g c = λ w h.
    warns c.in-Some.seat c.next_late.new.self.late.items c.in-Some.ensures.some (ap Ok c.warn.ensures.action)
    (c.warn.ensures.stands ∙ ap (λ a. doing_now a (doing.Warning c.in-Some.seat)) c.next_late.ensures.stands)

pub returns-in-None : goal.returns-in-None
returns-in-None g c = λ w h.
    let before = lines_stand g.R.Read.remaining c.args.self.now in
    let none = c.in-None.ensures.none in
    -- nothing was taken off
    let still = c.next_late.ensures.stands ∙ ap (λ late. with_late before late) (none.1 ∙ sym none.0) in
    let here = c.about-matter.ensures.stands ∙ ap heeded still in
    says c.about-matter.result
    (c.is_stopped.ensures.going c.if-is_stopped.false) none.0
    (subst (λ a. IsAbout a c.args.now c.about-matter.result) still c.about-matter.ensures.about)
    (subst (λ a. SaysMatter a w c.args.now c.about-matter.result c.say.result (lines_stand g.R.Read.remaining c.say.new.self)) here (c.say.ensures w (ap (λ a. a.late) here ∙ none.0) h))

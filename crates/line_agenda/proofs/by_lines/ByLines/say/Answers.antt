use Rattle.std.proofs.Common.{ap, refl, sym, subst}
use Rattle.std.specs.Prelude.{Ok}
use Rattle.driver.specs.declared.action.Action.TheVariants as action
use Rattle.line_agenda.specs.LinesAt.{lines_stand}
use Rattle.line_agenda.specs.Says.{SaysMatter}
use Rattle.line_agenda.proofs.by_lines.ByLines.say.Goals as goal

pub returns-in-Untimely : goal.returns-in-Untimely
returns-in-Untimely g c = λ w none h.
    let before = lines_stand g.R.Read.remaining c.args.self.now in
    subst (λ m. SaysMatter before w c.args.now m (Ok action.Nothing) before) (sym c.in-Untimely.is) (refl, refl)

pub returns-in-Watch : goal.returns-in-Watch
returns-in-Watch g c = λ w none h.
    let before = lines_stand g.R.Read.remaining c.args.self.now in
    subst (λ m. SaysMatter before w c.args.now m (Ok c.watch.result) before) (sym c.in-Watch.is)
    (c.watch.ensures.0, c.watch.ensures.1, ap Ok c.watch.ensures.2, refl)

pub returns-in-Input : goal.returns-in-Input
returns-in-Input g c = λ w none h.
    let before = lines_stand g.R.Read.remaining c.args.self.now in
    subst (λ m. SaysMatter before w c.args.now m c.take_input.result (lines_stand g.R.Read.remaining c.take_input.new.self)) (sym c.in-Input.is) (c.take_input.ensures w h)

pub returns-in-Life : goal.returns-in-Life
returns-in-Life g c = λ w none h.
    let before = lines_stand g.R.Read.remaining c.args.self.now in
    subst (λ m. SaysMatter before w c.args.now m (Ok c.hear.result) (lines_stand g.R.Read.remaining c.hear.new.self)) (sym c.in-Life.is) (ap Ok c.hear.ensures.action, c.hear.ensures.stands)

pub returns-in-Limit : goal.returns-in-Limit
returns-in-Limit g c = λ w none h.
    let before = lines_stand g.R.Read.remaining c.args.self.now in
    subst (λ m. SaysMatter before w c.args.now m c.limit.result (lines_stand g.R.Read.remaining c.limit.new.self)) (sym c.in-Limit.is) (c.limit.ensures w none h)

pub returns-in-Stall : goal.returns-in-Stall
returns-in-Stall g c = λ w none h.
    let before = lines_stand g.R.Read.remaining c.args.self.now in
    subst (λ m. SaysMatter before w c.args.now m (Ok c.stall.result) (lines_stand g.R.Read.remaining c.stall.new.self)) (sym c.in-Stall.is) (ap Ok c.stall.ensures.action, c.stall.ensures.stands)

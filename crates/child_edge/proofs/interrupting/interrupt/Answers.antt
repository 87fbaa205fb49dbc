use Rattle.std.proofs.Common.{ap}
use Rattle.std.specs.Option.{option_copied}
use Rattle.child_edge.proofs.Signals.{in_session, named, no_session}
use Rattle.child_edge.proofs.interrupting.interrupt.Goals as goal

pub returns-in-None : goal.returns-in-None
returns-in-None g c = λ w h.
    no_session g.C.Children.after w c.args.name c.args.children.now (option_copied c.session.result)
    (named c.sheet.result.now.contents w c.as_slice.result.now c.args.name (option_copied c.session.result) (c.sheet.ensures.stands w h) c.as_slice.ensures.bytes c.session.ensures)
    (ap option_copied c.in-None.is)

pub returns-in-Some : goal.returns-in-Some
returns-in-Some g c = λ w h.
    in_session g.C.Children.after w c.args.name c.args.children.now (option_copied c.session.result)
    (named c.sheet.result.now.contents w c.as_slice.result.now c.args.name (option_copied c.session.result) (c.sheet.ensures.stands w h) c.as_slice.ensures.bytes c.session.ensures)
    c.interrupt_life.new.children c.interrupt_life.result c.in-Some.field-0.now c.life.result
    (ap option_copied c.in-Some.is) (c.life.ensures.life w h) c.interrupt_life.ensures

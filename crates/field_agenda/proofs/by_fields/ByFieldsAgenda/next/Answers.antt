use Rattle.std.proofs.Common.{subst, sym}
use Rattle.field_agenda.specs.declared.stage.Stage.{Stage}
use Rattle.field_agenda.specs.Says.{SaysAt}
use Rattle.field_agenda.proofs.by_fields.ByFieldsAgenda.next.Goals as goal

pub returns-in-New : goal.returns-in-New
returns-in-New g c = λ w h.
    let a = c.args.self.now in
    subst (λ (how : Stage). SaysAt how (g.P.Programs.finds a.programs) a w c.args.now c.look.result c.look.new.self) (sym c.in-New.is) (c.look.ensures w h)

pub returns-in-Going : goal.returns-in-Going
returns-in-Going g c = λ w h.
    let a = c.args.self.now in
    subst (λ (how : Stage). SaysAt how (g.P.Programs.finds a.programs) a w c.args.now c.next_action.result c.next_action.new.self) (sym c.in-Going.is) (c.next_action.ensures w h)

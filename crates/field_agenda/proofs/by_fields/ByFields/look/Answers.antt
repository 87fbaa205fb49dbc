use Rattle.std.proofs.Common.{List, ℕ, ap, refl, subst}
use Rattle.worksheet.specs.Contents.{Contents}
use Rattle.field_agenda.specs.Looks.{LookFinds, looked, unlooked}
use Rattle.field_agenda.specs.Standing.{found}
use Rattle.field_agenda.proofs.by_fields.ByFields.look.Goals as goal

pub returns-in-Ok : goal.returns-in-Ok
returns-in-Ok g c = λ w h.
    let a = c.args.self.now in
    looked c.in-Ok.field-0.ids.items c.in-Ok.field-0.stage
    (subst (λ (s : Contents). LookFinds (g.P.Programs.finds a.programs) a.plan s c.in-Ok.field-0.ids.items c.in-Ok.field-0.stage) (c.sheet.ensures.stands w h) c.in-Ok.ensures) refl
    (ap (λ (l : List ℕ). found a l c.in-Ok.field-0.stage) c.from_vec.ensures)

pub returns-in-Err : goal.returns-in-Err
returns-in-Err g c = λ w h. unlooked refl refl

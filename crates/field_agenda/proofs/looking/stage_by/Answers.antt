use Rattle.std.proofs.Common.{List, ℕ, refl, subst}
use Rattle.evaluation.specs.Programs.{HaveAll, IsFirstLacking}
use Rattle.field_agenda.specs.Looks.{all_there, no_program}
use Rattle.field_agenda.proofs.looking.stage_by.Goals as goal

pub returns-in-Some : goal.returns-in-Some
returns-in-Some g c =
    let sheet = c.args.sheet.now.contents in
    no_program c.in-Some.name c.requires.all
    (subst (λ (ids : List ℕ). IsFirstLacking (g.P.Programs.finds c.args.programs.now) sheet.fields ids sheet.sessions c.in-Some.name) c.requires.order c.in-Some.ensures.found)

pub returns-in-None : goal.returns-in-None
returns-in-None g c =
    let sheet = c.args.sheet.now.contents in
    all_there c.requires.all
    (subst (λ (ids : List ℕ). HaveAll (g.P.Programs.finds c.args.programs.now) sheet.fields ids sheet.sessions) c.requires.order (c.in-None.ensures.none refl)) c.requires.order

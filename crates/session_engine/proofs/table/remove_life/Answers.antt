use Rattle.std.proofs.Common.{ap, sym, ◌∙◌, refl, Some}
use Rattle.session_engine.specs.declared.table.Running.{Running}
use Rattle.session_engine.specs.Host.{name_of}
use Rattle.session_engine.proofs.Tables.{placed, none}
use Rattle.session_engine.proofs.table.remove_life.Goals as goal

pub returns-in-Some : goal.returns-in-Some
returns-in-Some c =
    let rs = c.args.lives.now.items in
    let p = placed name_of c.args.name rs c.in-Some.place (sym c.place_of.ensures.found ∙ c.in-Some.is) in
    (p.found c.remove.result ∙ ap (λ (r : Running). Some r) (sym c.remove.ensures.value), c.remove.ensures.items ∙ p.rest)

pub returns-in-None : goal.returns-in-None
returns-in-None c = (none name_of c.args.name 0 c.args.lives.now.items (sym c.place_of.ensures.found ∙ c.in-None.is), refl)

use Rattle.std.proofs.Common.{ap, sym, ◌∙◌, Option, Some}
use Rattle.std.specs.Prelude.{◌==◌}
use Rattle.session_engine.specs.declared.table.Running.{Running}
use Rattle.session_engine.specs.Host.{name_of}
use Rattle.session_engine.specs.inside.Tables.{has_number}
use Rattle.session_engine.proofs.Tables.{placed, none}
use Rattle.session_engine.proofs.table.has_life.Goals as goal

pub returns-in-Some : goal.returns-in-Some
returns-in-Some c =
    let rs = c.args.lives.now.items in
    let p = placed name_of c.args.name rs c.in-Some.place (sym c.place_of.ensures.found ∙ c.in-Some.is) in
    let found = p.found c.index.result.now ∙ ap (λ (r : Running). Some r) (sym c.index.ensures) in
    ap (λ n. n == c.args.number) c.number.ensures ∙ sym (ap (λ (o : Option Running). has_number c.args.number o) found)

pub returns-in-None : goal.returns-in-None
returns-in-None c =
    sym (ap (λ (o : Option Running). has_number c.args.number o) (none name_of c.args.name 0 c.args.lives.now.items (sym c.place_of.ensures.found ∙ c.in-None.is)))

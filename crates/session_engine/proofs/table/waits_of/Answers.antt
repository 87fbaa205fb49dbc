use Rattle.std.proofs.Common.{◌≡◌, ap, sym, ◌∙◌, Some}
use Rattle.session_engine.specs.declared.table.Running.{Running}
use Rattle.session_engine.specs.Host.{name_of, life_in}
use Rattle.session_engine.specs.inside.Tables.{waits_at}
use Rattle.session_engine.proofs.Tables.{placed, none, found, not_found}
use Rattle.session_engine.proofs.table.waits_of.Goals as goal

pub returns-in-Some : goal.returns-in-Some
returns-in-Some c = λ ls s.
    let rs = c.args.lives.now.items in
    let r = c.index.result.now in
    let p = placed name_of c.args.name rs c.in-Some.place (sym c.place_of.ensures.found ∙ c.in-Some.is) in
    let here : life_in rs c.args.name ≡ Some r = p.found r ∙ ap (λ (x : Running). Some x) (sym c.index.ensures) in
    let f = found c.args.name rs ls r s here in
    c.waits_for.ensures f.life.past f.life.blocks f.runs.stands ∙ sym (ap (waits_at c.args.id) f.is)

pub returns-in-None : goal.returns-in-None
returns-in-None c = λ ls s.
    let rs = c.args.lives.now.items in
    sym (ap (waits_at c.args.id) (not_found c.args.name rs ls s (none name_of c.args.name 0 rs (sym c.place_of.ensures.found ∙ c.in-None.is))))

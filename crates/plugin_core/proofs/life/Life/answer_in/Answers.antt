use Rattle.std.proofs.Common.{ap, sym, ◌∙◌, Option, ℕ}
use Rattle.std.specs.Prelude.{option_map}
use Rattle.meta_format.specs.Found.{outer_of, outers}
use Rattle.plugin_core.specs.Kept.{InterpreterView}
use Rattle.plugin_core.specs.inside.Changes.{closed_among}
use Rattle.plugin_core.proofs.Asks.{first_found}
use Rattle.plugin_core.proofs.life.Life.answer_in.Goals as goal

pub returns-in-Some : goal.returns-in-Some
returns-in-Some c =
    ap (option_map outer_of) c.first_after.ensures
    ∙ first_found c.in-Some.ask c.args.found.items
    ∙ ap (λ (o : Option ℕ). closed_among o (outers c.args.found.items)) (sym c.in-Some.is)
    ∙ ap (λ (l : InterpreterView). closed_among l.ask (outers c.args.found.items)) c.self.view_is

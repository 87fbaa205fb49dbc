use Rattle.std.proofs.Common.{◌≡◌, ◌∙◌, sym, Some}
use Rattle.plugin_core.specs.inside.Words.{prompt_in}
use Rattle.plugin_core.proofs.Prompts.{short_in}
use Rattle.plugin_core.proofs.life.Life.prompt_after.Goals as goal

pub returns-in-Some-clause-short : goal.returns-in-Some-clause-short
returns-in-Some-clause-short c =
    let e : prompt_in c.args.block.now ≡ Some c.in-Some.prompt = sym c.in_ok-prompt.ensures ∙ c.in-Some.is in
    short_in c.args.block.now c.in-Some.prompt e

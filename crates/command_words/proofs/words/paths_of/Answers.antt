use Rattle.std.proofs.Common.{ap, codes, Option, [], List, ◌∙◌}
use Rattle.std.specs.Prelude.{unwrap_or}
use Rattle.std.proofs.lemmas.Result.{IfOk-weaker}
use Rattle.clap.specs.Words.{Text, found_of}
use Rattle.clap.proofs.WalkLemmas.{raw_values-rows}
use Rattle.command_words.proofs.words.paths_of.Goals as goal

pub returns : goal.returns
returns c =
    let named = c.get_strs.ensures ∙ raw_values-rows (found_of c.args.matches.now) (codes "PATH") in
    IfOk-weaker c.copied.result _ _ (λ paths e. e ∙ ap (λ (o : Option (List Text)). unwrap_or o []) named) c.copied.ensures

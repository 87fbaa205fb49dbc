use Rattle.std.proofs.Common.{ap, codes, Bool, Option, ◌≡◌, ◌∙◌}
use Rattle.clap.specs.Words.{Text, found_of}
use Rattle.clap.proofs.WalkLemmas.{first_value-rows}
use Rattle.command_words.specs.Asked.{RunView, is_set}
use Rattle.command_words.proofs.words.run_words.Goals as goal

viewed : (a b x y : Bool) (p q : Option Text) → a ≡ b → x ≡ y → p ≡ q → let v : RunView = record { strict = a; json = x; timeout = p } in let w : RunView = record { strict = b; json = y; timeout = q } in v ≡ w
viewed a b x y p q e f g = cc

pub returns : goal.returns
returns c =
    let found = found_of c.args.matches.now in
    viewed _ _ _ _ _ _ (c.is_set.ensures ∙ ap is_set (c.get_str.ensures ∙ first_value-rows found (codes "strict"))) (c.is_set-2.ensures ∙ ap is_set (c.get_str-2.ensures ∙ first_value-rows found (codes "json"))) (c.get_str-3.ensures ∙ first_value-rows found (codes "timeout"))

use Rattle.std.proofs.Common.{ap, codes, Bool, Option, ◌≡◌, ◌∙◌}
use Rattle.clap.specs.Words.{Text, found_of}
use Rattle.clap.proofs.WalkLemmas.{first_value-rows}
use Rattle.command_words.specs.Asked.{CheckView, EvalView, FlagsView, RunView, is_set}
use Rattle.command_words.proofs.words.flags_of.Goals as goal

viewed : (x y u v : Bool) (k l m n : Option Text) (a b : RunView) (s t : EvalView) (p q : CheckView) → x ≡ y → u ≡ v → k ≡ l → m ≡ n → a ≡ b → s ≡ t → p ≡ q
    → let one : FlagsView = record { json = x; partial = u; at = k; changes = m; run = a; eval = s; check = p } in let other : FlagsView = record { json = y; partial = v; at = l; changes = n; run = b; eval = t; check = q } in one ≡ other
viewed x y u v k l m n a b s t p q d e f g h i j = cc

pub returns : goal.returns
returns c =
    let found = found_of c.args.matches.now in
    viewed _ _ _ _ _ _ _ _ _ _ _ _ _ _ (c.is_set.ensures ∙ ap is_set (c.get_str.ensures ∙ first_value-rows found (codes "json"))) (c.is_set-2.ensures ∙ ap is_set (c.get_str-2.ensures ∙ first_value-rows found (codes "partial"))) (c.get_str-3.ensures ∙ first_value-rows found (codes "at")) (c.get_str-4.ensures ∙ first_value-rows found (codes "N")) c.run_words.ensures c.in_ok-eval.ensures c.in_ok-check.ensures

use Rattle.std.proofs.Common.{ap, codes, Bool, List, Option, ◌≡◌, ◌∙◌}
use Rattle.clap.specs.Words.{Text, found_of}
use Rattle.clap.proofs.WalkLemmas.{first_value-rows}
use Rattle.command_words.specs.Asked.{EvalView, is_set}
use Rattle.command_words.proofs.words.eval_words.Goals as goal

viewed : (a b x y h1 h2 s t k l v w : Bool) (p q m n c d : Option Text) (i j : List Text) → a ≡ b → x ≡ y → h1 ≡ h2 → s ≡ t → k ≡ l → v ≡ w → p ≡ q → m ≡ n → c ≡ d → i ≡ j
    → let one : EvalView = record { strict = a; unanswered = x; changed = h1; json = s; keep_going = k; stop_at_error = v; timeout = p; from = m; jobs = c; ids = i } in
    let other : EvalView = record { strict = b; unanswered = y; changed = h2; json = t; keep_going = l; stop_at_error = w; timeout = q; from = n; jobs = d; ids = j } in one ≡ other
viewed a b x y h1 h2 s t k l v w p q m n c d i j e f h3 g h o1 o r z u = cc

pub returns : goal.returns
returns c =
    let found = found_of c.args.matches.now in
    viewed _ _ _ _ _ _ _ _ _ _ _ _ _ _ _ _ _ _ _ _ (c.is_set.ensures ∙ ap is_set (c.get_str.ensures ∙ first_value-rows found (codes "strict"))) (c.is_set-2.ensures ∙ ap is_set (c.get_str-2.ensures ∙ first_value-rows found (codes "unanswered")))
    (c.is_set-3.ensures ∙ ap is_set (c.get_str-3.ensures ∙ first_value-rows found (codes "changed"))) (c.is_set-4.ensures ∙ ap is_set (c.get_str-4.ensures ∙ first_value-rows found (codes "json"))) (c.is_set-5.ensures ∙ ap is_set (c.get_str-5.ensures ∙ first_value-rows found (codes "keep-going"))) (c.is_set-6.ensures ∙ ap is_set (c.get_str-6.ensures ∙ first_value-rows found (codes "stop-at-error"))) (c.get_str-7.ensures ∙ first_value-rows found (codes "timeout"))
    (c.get_str-8.ensures ∙ first_value-rows found (codes "from")) (c.get_str-9.ensures ∙ first_value-rows found (codes "jobs")) c.in_ok-ids.ensures

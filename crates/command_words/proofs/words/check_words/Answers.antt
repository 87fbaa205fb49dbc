use Rattle.std.proofs.Common.{ap, codes, Bool, List, Option, ◌≡◌, ◌∙◌}
use Rattle.clap.specs.Words.{Text, found_of}
use Rattle.clap.proofs.WalkLemmas.{first_value-rows}
use Rattle.command_words.specs.Asked.{CheckView, is_set}
use Rattle.command_words.proofs.words.check_words.Goals as goal

viewed : (i j : List Text) (a b x y p q e f k l c r : Option Text) (s t m n v w o z : Bool) → i ≡ j → m ≡ n → a ≡ b → x ≡ y → p ≡ q → e ≡ f → k ≡ l → s ≡ t → v ≡ w → o ≡ z → c ≡ r
    → let one : CheckView = record { paths = i; json = m; format = a; only = x; leave_out = p; compare = e; timeout = k; accept = s; whole = v; all = o; jobs = c } in
    let other : CheckView = record { paths = j; json = n; format = b; only = y; leave_out = q; compare = f; timeout = l; accept = t; whole = w; all = z; jobs = r } in one ≡ other
viewed i j a b x y p q e f k l c r s t m n v w o z u d aa bb g h oo zz cd cf ce = cc

pub returns : goal.returns
returns c =
    let found = found_of c.args.matches.now in
    viewed _ _ _ _ _ _ _ _ _ _ _ _ _ _ _ _ _ _ _ _ _ _ c.in_ok-paths.ensures (c.is_set.ensures ∙ ap is_set (c.get_str.ensures ∙ first_value-rows found (codes "json"))) (c.get_str-2.ensures ∙ first_value-rows found (codes "format")) (c.get_str-3.ensures ∙ first_value-rows found (codes "only"))
    (c.get_str-4.ensures ∙ first_value-rows found (codes "leave-out")) (c.get_str-5.ensures ∙ first_value-rows found (codes "compare")) (c.get_str-6.ensures ∙ first_value-rows found (codes "timeout"))
    (c.is_set-2.ensures ∙ ap is_set (c.get_str-7.ensures ∙ first_value-rows found (codes "accept"))) (c.is_set-3.ensures ∙ ap is_set (c.get_str-8.ensures ∙ first_value-rows found (codes "whole"))) (c.is_set-4.ensures ∙ ap is_set (c.get_str-9.ensures ∙ first_value-rows found (codes "all")))
    (c.get_str-10.ensures ∙ first_value-rows found (codes "jobs"))

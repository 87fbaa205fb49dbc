-- What an output tells, by what is read.
use Rattle.std.proofs.Common.{◌≡◌, ℕ, List, refl, ap, sym, ◌∙◌, Option, Some, None, subst}
use Rattle.std.specs.Prelude.{◌↔◌, is_some, is_ok, Result, Ok, Err}
use Rattle.std.proofs.lemmas.Bool.{false≢true}
use Rattle.block_tree.specs.Tree.{Tree}
use Rattle.scheme_text.specs.Outputs.{answer_text}
use Rattle.scheme_text.specs.Answers.{Says, IsReportedBy, rooted}
use Rattle.scheme_text.specs.inside.Scan.{read_strings}
use Rattle.scheme_text.specs.Reported.{no_completion, reported_by_strings, reported_by_text, reported_by}
use Rattle.scheme_text.specs.declared.answer.BadCompletion.{BadCompletion}
use Rattle.scheme_text.specs.declared.answer.Completions.{Completions}
use Rattle.scheme_text.proofs.Read.{says_read, says_one_list}
use Rattle.scheme_text.proofs.Sound.{read_says}

untext : List ℕ → Option (List ℕ) → List ℕ
untext d None = d
untext d (Some t) = t

same_text : (a b : List ℕ) → Some a ≡ Some b → a ≡ b
unfolding untext
same_text a b h = ap (untext a) h

pub one_completion : (b : Tree) (c d : Completions) → IsReportedBy b c → IsReportedBy b d → c ≡ d
one_completion b c d p q =
    let e : p.text ≡ q.text = same_text p.text q.text (sym p.holds ∙ q.holds) in
    let s : p.strings ≡ q.strings = says_one_list q.text p.strings q.strings (subst (λ t. Says t p.strings) e p.says) q.says in
    p.are ∙ ap rooted s ∙ sym q.are

pub tells : (b : Tree) (t : List ℕ) (ts : List (List ℕ)) → answer_text b ≡ Some t → read_strings t ≡ Some ts → IsReportedBy b (rooted ts)
tells b t ts h r = record { text = t; strings = ts; holds = h; says = read_says t ts r; are = refl }

no_text : (t : List ℕ) → None ≡ Some t → ⊥
no_text t h = false≢true (ap is_some h)

pub tells_none : (b : Tree) (c : Completions) → answer_text b ≡ None → IsReportedBy b c → ⊥
tells_none b c h p = no_text p.text (sym h ∙ p.holds)

no_strings : (ts : List (List ℕ)) → None ≡ Some ts → ⊥
no_strings ts h = false≢true (ap is_some h)

pub tells_bad : (b : Tree) (t : List ℕ) (c : Completions) → answer_text b ≡ Some t → read_strings t ≡ None → IsReportedBy b c → ⊥
tells_bad b t c h r p =
    let e : p.text ≡ t = same_text p.text t (sym p.holds ∙ h) in
    no_strings p.strings (sym r ∙ says_read t p.strings (subst (λ s. Says s p.strings) e p.says))

-- the answer as a value

err_ok : (x : BadCompletion) (c : Completions) → Err x ≡ Ok c → ⊥
err_ok x c h = false≢true (ap is_ok h)

value_of : Completions → Result Completions BadCompletion → Completions
value_of d (Err x) = d
value_of d (Ok c) = c

abbrev good : Completions → Result Completions BadCompletion
good c = Ok c

same_value : (a b : Completions) → good a ≡ good b → a ≡ b
unfolding value_of
same_value a b h = ap (value_of a) h

from_strings : (b : Tree) (t : List ℕ) (o : Option (List (List ℕ))) (c : Completions) → answer_text b ≡ Some t → read_strings t ≡ o → reported_by_strings o ≡ Ok c → IsReportedBy b c
from_strings b t None c h r e = absurd (err_ok no_completion c e)
from_strings b t (Some ts) c h r e = subst (IsReportedBy b) (same_value (rooted ts) c e) (tells b t ts h r)

from_text : (b : Tree) (o : Option (List ℕ)) (c : Completions) → answer_text b ≡ o → reported_by_text o ≡ Ok c → IsReportedBy b c
from_text b None c h e = absurd (err_ok no_completion c e)
from_text b (Some t) c h e = from_strings b t (read_strings t) c h refl e

as_a_value : (b : Tree) (c : Completions) → IsReportedBy b c → reported_by b ≡ Ok c
as_a_value b c p = ap reported_by_text p.holds ∙ ap reported_by_strings (says_read p.text p.strings p.says) ∙ ap Ok (sym p.are)

pub reported_as_a_value : (b : Tree) (c : Completions) → (reported_by b ≡ Ok c) ↔ IsReportedBy b c
reported_as_a_value b c = (from_text b (answer_text b) c refl, as_a_value b c)

pub ruleset answer_rules = (tells, tells_none, tells_bad)

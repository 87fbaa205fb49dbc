-- Counts, one after another.
use Rattle.std.proofs.Common.{◌≡◌, ◌+◌, ℕ, suc, Bool, true, false, Option, List, [], ◌∷◌, ◌++◌, length, append_assoc, refl, ap, sym, ◌∙◌, arith}
use Rattle.worksheet.specs.declared.field.Answer.{Answer}
use Rattle.check_report.specs.declared.report.ReportFormat.{ReportFormat}
use Rattle.check_report.specs.declared.verdict.VerdictCounts.{VerdictCounts}
use Rattle.check_report.specs.declared.verdict.Judgement.{Judgement}
use Rattle.check_report.specs.declared.verdict.Verdict.{Verdict}
use Rattle.check_report.specs.declared.verdict.Verdict.TheVariants as verdict
use Rattle.check_report.specs.Reports.{Case, case_text, cases_text, opening_text, report_front, judgements_of}
use Rattle.check_report.specs.Verdicts.{counted_with, counts_of, judgement_of, total, with_error, with_verdict}
use Rattle.check_report.specs.Errors.{brings_error}
use Rattle.check_report.proofs.Totals.{total-of}
use Rattle.sheet_check.specs.inside.Checking.{counted_on}

verdicts-swapped : (a b : Verdict) (counts : VerdictCounts) → with_verdict a (with_verdict b counts) ≡ with_verdict b (with_verdict a counts)
verdicts-swapped verdict.Same verdict.Same counts = refl
verdicts-swapped verdict.Same verdict.Differs counts = refl
verdicts-swapped verdict.Same verdict.Unanswered counts = refl
verdicts-swapped verdict.Same verdict.LeftOut counts = refl
verdicts-swapped verdict.Same verdict.New counts = refl
verdicts-swapped verdict.Differs verdict.Same counts = refl
verdicts-swapped verdict.Differs verdict.Differs counts = refl
verdicts-swapped verdict.Differs verdict.Unanswered counts = refl
verdicts-swapped verdict.Differs verdict.LeftOut counts = refl
verdicts-swapped verdict.Differs verdict.New counts = refl
verdicts-swapped verdict.Unanswered verdict.Same counts = refl
verdicts-swapped verdict.Unanswered verdict.Differs counts = refl
verdicts-swapped verdict.Unanswered verdict.Unanswered counts = refl
verdicts-swapped verdict.Unanswered verdict.LeftOut counts = refl
verdicts-swapped verdict.Unanswered verdict.New counts = refl
verdicts-swapped verdict.LeftOut verdict.Same counts = refl
verdicts-swapped verdict.LeftOut verdict.Differs counts = refl
verdicts-swapped verdict.LeftOut verdict.Unanswered counts = refl
verdicts-swapped verdict.LeftOut verdict.LeftOut counts = refl
verdicts-swapped verdict.LeftOut verdict.New counts = refl
verdicts-swapped verdict.New verdict.Same counts = refl
verdicts-swapped verdict.New verdict.Differs counts = refl
verdicts-swapped verdict.New verdict.Unanswered counts = refl
verdicts-swapped verdict.New verdict.LeftOut counts = refl
verdicts-swapped verdict.New verdict.New counts = refl

errors-swapped : (a b : Bool) (counts : VerdictCounts) → with_error a (with_error b counts) ≡ with_error b (with_error a counts)
errors-swapped false b counts = refl
errors-swapped true false counts = refl
errors-swapped true true counts = refl

both-swapped : (v : Verdict) (e : Bool) (counts : VerdictCounts) → with_error e (with_verdict v counts) ≡ with_verdict v (with_error e counts)
both-swapped v false counts = refl
both-swapped verdict.Same true counts = refl
both-swapped verdict.Differs true counts = refl
both-swapped verdict.Unanswered true counts = refl
both-swapped verdict.LeftOut true counts = refl
both-swapped verdict.New true counts = refl

swapped : (a b : Judgement) (counts : VerdictCounts) → counted_with a (counted_with b counts) ≡ counted_with b (counted_with a counts)
swapped a b counts =
    ap (λ c. with_verdict a.verdict c) (both-swapped b.verdict a.error (with_error b.error counts))
    ∙ verdicts-swapped a.verdict b.verdict (with_error a.error (with_error b.error counts))
    ∙ ap (λ c. with_verdict b.verdict (with_verdict a.verdict c)) (errors-swapped a.error b.error counts)
    ∙ ap (λ c. with_verdict b.verdict c) (sym (both-swapped a.verdict b.error (with_error a.error counts)))

-- what is counted as an error by the answer that came
pub as_judged : (j : Judgement) (came : Option Answer) (counts : VerdictCounts) → j.error ≡ brings_error came → counted_on (j ∷ []) counts ≡ counted_on (judgement_of came j.verdict ∷ []) counts
as_judged j came counts e = ap (λ (b : Bool). with_verdict j.verdict (with_error b counts)) e

counted_on-with : (others : List Judgement) (one : Judgement) (counts : VerdictCounts) → counted_on others (counted_with one counts) ≡ counted_with one (counted_on others counts)
counted_on-with [] one counts = refl
counted_on-with (other ∷ others) one counts = ap (λ c. counted_with other c) (counted_on-with others one counts) ∙ swapped other one (counted_on others counts)

counts-on : (judgements : List Judgement) → counts_of judgements ≡ counted_on judgements (counts_of [])
counts-on [] = refl
counts-on (one ∷ others) = ap (λ c. counted_with one c) (counts-on others)

pub counts-more : (judgements more : List Judgement) → counts_of (judgements ++ more) ≡ counted_on more (counts_of judgements)
counts-more [] more = counts-on more
counts-more (one ∷ others) more = ap (λ c. counted_with one c) (counts-more others more) ∙ sym (counted_on-with more one (counts_of others))

pub cases-more : (cases more : List Case) → counts_of (judgements_of (cases ++ more)) ≡ counted_on (judgements_of more) (counts_of (judgements_of cases))
cases-more cases more = ap counts_of (all cases) ∙ counts-more (judgements_of cases) (judgements_of more)
  where
    all : (xs : List Case) → judgements_of (xs ++ more) ≡ judgements_of xs ++ judgements_of more
    all [] = refl
    all (x ∷ xs) = ap (λ js. judgement_of x.came x.verdict ∷ js) (all xs)

-- The report, one case after another.

texts-more : (F : ReportFormat) (number : ℕ) (cases more : List Case) → cases_text F number (cases ++ more) ≡ cases_text F number cases ++ cases_text F (number + length cases) more
texts-more F number [] more = ap (λ n. cases_text F n more) (omega arith)
texts-more F number (c ∷ cases) more =
    let place : number + 1 + length cases ≡ number + suc (length cases) = omega arith in
    ap (λ t. case_text F number c ++ t) (texts-more F (number + 1) cases more ∙ ap (λ n. cases_text F (number + 1) cases ++ cases_text F n more) place)
    ∙ sym (append_assoc (case_text F number c) (cases_text F (number + 1) cases) (cases_text F (number + suc (length cases)) more))

pub front-more : (F : ReportFormat) (cases more : List Case) (counts : VerdictCounts) → counts ≡ counts_of (judgements_of cases) → report_front F (cases ++ more) ≡ report_front F cases ++ cases_text F (total counts + 1) more
front-more F cases more counts is =
    let place : 1 + length cases ≡ total counts + 1 = omega (arith, ap total is, total-of cases) in
    ap (λ t. opening_text F ++ t) (texts-more F 1 cases more ∙ ap (λ n. cases_text F 1 cases ++ cases_text F n more) place)
    ∙ sym (append_assoc (opening_text F) (cases_text F 1 cases) (cases_text F (total counts + 1) more))

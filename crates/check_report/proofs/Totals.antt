-- How many cases are counted.
use Rattle.std.proofs.Common.{◌≡◌, ◌+◌, ◌≤◌, Bool, true, false, List, [], ◌∷◌, length, refl, ap, ◌∙◌, arith}
use Rattle.check_report.specs.declared.verdict.VerdictCounts.{VerdictCounts}
use Rattle.check_report.specs.declared.verdict.Judgement.{Judgement}
use Rattle.check_report.specs.declared.verdict.Verdict.{Verdict}
use Rattle.check_report.specs.declared.verdict.Verdict.TheVariants as verdict
use Rattle.check_report.specs.Reports.{Case, judgements_of}
use Rattle.check_report.specs.Verdicts.{counted_with, counts_of, judgement_of, total, with_error, with_verdict}

-- a verdict more

total-verdict : (v : Verdict) (counts : VerdictCounts) → total (with_verdict v counts) ≡ total counts + 1
total-verdict verdict.Same counts = omega arith
total-verdict verdict.Differs counts = omega arith
total-verdict verdict.Unanswered counts = omega arith
total-verdict verdict.LeftOut counts = omega arith
total-verdict verdict.New counts = omega arith

errors-verdict : (v : Verdict) (counts : VerdictCounts) → (with_verdict v counts).errors ≡ counts.errors
errors-verdict verdict.Same counts = refl
errors-verdict verdict.Differs counts = refl
errors-verdict verdict.Unanswered counts = refl
errors-verdict verdict.LeftOut counts = refl
errors-verdict verdict.New counts = refl

-- an error more, or none

pub total-error : (error : Bool) (counts : VerdictCounts) → total (with_error error counts) ≡ total counts
total-error false counts = refl
total-error true counts = refl

errors-error : (error : Bool) (counts : VerdictCounts) → (with_error error counts).errors ≤ counts.errors + 1
errors-error false counts = omega arith
errors-error true counts = omega arith

-- both

pub total-with : (one : Judgement) (counts : VerdictCounts) → total (counted_with one counts) ≡ total counts + 1
total-with one counts = total-verdict one.verdict (with_error one.error counts) ∙ ap (λ n. n + 1) (total-error one.error counts)

pub errors-with : (one : Judgement) (counts : VerdictCounts) → counts.errors ≤ total counts → (counted_with one counts).errors ≤ total (counted_with one counts)
errors-with one counts h = omega (arith, errors-verdict one.verdict (with_error one.error counts), errors-error one.error counts, total-with one counts, h)

pub total-of : (cases : List Case) → total (counts_of (judgements_of cases)) ≡ length cases
total-of [] = refl
total-of (c ∷ cases) = omega (arith, total-with (judgement_of c.came c.verdict) (counts_of (judgements_of cases)), total-of cases)

pub errors-of : (cases : List Case) → (counts_of (judgements_of cases)).errors ≤ length cases
errors-of cases = omega (arith, all cases, total-of cases)
  where
    all : (xs : List Case) → (counts_of (judgements_of xs)).errors ≤ total (counts_of (judgements_of xs))
    all [] = omega arith
    all (c ∷ xs) = errors-with (judgement_of c.came c.verdict) (counts_of (judgements_of xs)) (all xs)

pub ruleset counting = (total-error, total-with, errors-with)

-- Reports, by their points.
use Rattle.std.proofs.Common.{◌≡◌, ◌+◌, ℕ, suc, List, [], ◌∷◌, ◌++◌, flat_map, length, map, refl, ap, sym, ◌∙◌, arith}
use Rattle.check_report.specs.declared.report.ReportFormat.TheVariants as format
use Rattle.check_report.specs.Junit.{head, junit_case, tail}
use Rattle.check_report.specs.Laws.{ReportsAreTheirTexts}
use Rattle.check_report.specs.Reports.{Case, cases_text, point_of, judgements_of}
use Rattle.check_report.specs.Tap.{plan_line, tap_point, tap_points, version_line}
use Rattle.check_report.specs.Verdicts.{counts_of, total}
use Rattle.check_report.specs.Words.{acceptance_text, accepted_counts_text, counts_text, verdict_text, whole_text}
use Rattle.check_report.proofs.JsonLines.{json_report}
use Rattle.check_report.proofs.Totals.{total-of}

taps : (number : ℕ) (cases : List Case) → cases_text format.Tap number cases ≡ tap_points number (map point_of cases)
taps number [] = refl
taps number (c ∷ cases) = ap (λ t. tap_point number (point_of c) ++ t) (taps (number + 1) cases)

junits : (number : ℕ) (cases : List Case) → cases_text format.Junit number cases ≡ flat_map junit_case (map point_of cases)
junits number [] = refl
junits number (c ∷ cases) = ap (λ t. junit_case (point_of c) ++ t) (junits (number + 1) cases)

words : (number : ℕ) (cases : List Case) → cases_text format.Text number cases ≡ flat_map (λ c. verdict_text c.field c.came c.lost c.verdict) cases
words number [] = refl
words number (c ∷ cases) = ap (λ t. verdict_text c.field c.came c.lost c.verdict ++ t) (words (number + 1) cases)

whole : (number : ℕ) (cases : List Case) → cases_text format.Whole number cases ≡ flat_map (λ c. whole_text c.field c.came c.lost c.verdict) cases
whole number [] = refl
whole number (c ∷ cases) = ap (λ t. whole_text c.field c.came c.lost c.verdict ++ t) (whole (number + 1) cases)

accepted : (number : ℕ) (cases : List Case) → cases_text format.Accepting number cases ≡ flat_map (λ c. acceptance_text c.field c.came c.lost c.verdict) cases
accepted number [] = refl
accepted number (c ∷ cases) = ap (λ t. acceptance_text c.field c.came c.lost c.verdict ++ t) (accepted (number + 1) cases)

points-length : (cases : List Case) → length (map point_of cases) ≡ length cases
points-length [] = refl
points-length (c ∷ cases) = ap suc (points-length cases)

pub are_their_texts : ReportsAreTheirTexts
are_their_texts cases = (
  ap (λ t. version_line ++ t ++ plan_line (total (counts_of (judgements_of cases)))) (taps 1 cases)
      ∙ ap (λ n. version_line ++ tap_points 1 (map point_of cases) ++ plan_line n) (total-of cases ∙ sym (points-length cases)),
  ap (λ t. head ++ t ++ tail) (junits 1 cases),
  json_report cases,
  ap (λ t. t ++ counts_text (counts_of (judgements_of cases))) (words 1 cases),
  ap (λ t. t ++ counts_text (counts_of (judgements_of cases))) (whole 1 cases),
  ap (λ t. t ++ accepted_counts_text (counts_of (judgements_of cases))) (accepted 1 cases),
)

-- The total of one worksheet more.
use Rattle.std.proofs.Common.{◌≡◌, ◌+◌, ◌&&◌, ◌∙◌, ℕ, Bool, List, [], ◌∷◌, ◌++◌, length, sym, ap, arith}
use Rattle.std.specs.Prelude.{Ok, Err}
use Rattle.std.specs.List.{list_all, sum_by}
use Rattle.std.proofs.Math.Bool.{and-true}
use Rattle.std.proofs.lemmas.List.{length-append}
use Rattle.std.proofs.lemmas.List.Folds.{list_all-append}
use Rattle.std.proofs.lemmas.List.Sums.{sum_by-append}
use Rattle.check_report.specs.declared.verdict.VerdictCounts.{VerdictCounts}
use Rattle.sheet_check.specs.declared.named.CheckFault.{CheckFault}
use Rattle.program_endings.specs.SeveralProgram.{counted_by, counted_in, faults_by, faults_in, went_out, is_well, total_of}
use Rattle.program_endings.specs.inside.Totals.{with_counts, with_fault}
use Rattle.program_endings.specs.declared.check_program.CheckEnding.{CheckEnding}
use Rattle.program_endings.specs.declared.several_program.Total.{Total}

sum_more : (f : CheckEnding → ℕ) (ends : List CheckEnding) (end : CheckEnding) → sum_by f ends + f end ≡ sum_by f (ends ++ end ∷ [])
sum_more f ends end = let one : f end ≡ sum_by f (end ∷ []) = omega arith in ap (λ n. sum_by f ends + n) one ∙ sym (sum_by-append f ends (end ∷ []))

all_more : (p : CheckEnding → Bool) (ends : List CheckEnding) (end : CheckEnding) → (list_all p ends && p end) ≡ list_all p (ends ++ end ∷ [])
all_more p ends end = ap (λ b. list_all p ends && b) (sym (and-true (p end))) ∙ sym (list_all-append p ends (end ∷ []))

length_more : (ends : List CheckEnding) (end : CheckEnding) → length ends + 1 ≡ length (ends ++ end ∷ [])
length_more ends end = sym (length-append ends (end ∷ []))

same_total : (w v s r d c u b x y i j f e : ℕ) (p o t q : Bool) → w ≡ v → s ≡ r → d ≡ c → u ≡ b → x ≡ y → i ≡ j → f ≡ e → p ≡ o → t ≡ q
    → let one : Total = record { worksheets = w; same = s; differ = d; unanswered = u; errors = x; new = i; faults = f; passed = p; reported = t } in
    let two : Total = record { worksheets = v; same = r; differ = c; unanswered = b; errors = y; new = j; faults = e; passed = o; reported = q } in one ≡ two
same_total w v s r d c u b x y i j f e p o t q g h a aa bb k l m n = cc

same_sum : (f : CheckEnding → ℕ) (ends : List CheckEnding) (end : CheckEnding) → f end ≡ 0 → sum_by f ends ≡ sum_by f (ends ++ end ∷ [])
same_sum f ends end e = omega (arith, sum_more f ends end, e)

counted : (part : VerdictCounts → ℕ) (ends : List CheckEnding) (end : CheckEnding) (n : ℕ) → n ≡ counted_in part end → sum_by (counted_in part) ends + n ≡ sum_by (counted_in part) (ends ++ end ∷ [])
counted part ends end n e = ap (λ m. sum_by (counted_in part) ends + m) e ∙ sum_more (counted_in part) ends end

faulty : (ends : List CheckEnding) (end : CheckEnding) (n : ℕ) → n ≡ faults_in end → sum_by faults_in ends + n ≡ sum_by faults_in (ends ++ end ∷ [])
faulty ends end n e = ap (λ m. sum_by faults_in ends + m) e ∙ sum_more faults_in ends end

-- with the counts of one that came to its end
counts_more : (ends : List CheckEnding) (end : CheckEnding) (counts : VerdictCounts) → end.answer ≡ Ok counts → with_counts counts end.ending (total_of ends) ≡ total_of (ends ++ end ∷ [])
counts_more ends end counts e =
    same_total _ _ _ _ _ _ _ _ _ _ _ _ _ _ _ _ _ _ (length_more ends end)
    (counted (λ c. c.same) ends end counts.same (sym (ap (counted_by (λ c. c.same)) e)))
    (counted (λ c. c.differ) ends end counts.differ (sym (ap (counted_by (λ c. c.differ)) e)))
    (counted (λ c. c.unanswered) ends end counts.unanswered (sym (ap (counted_by (λ c. c.unanswered)) e)))
    (counted (λ c. c.errors) ends end counts.errors (sym (ap (counted_by (λ c. c.errors)) e)))
    (counted (λ c. c.new) ends end counts.new (sym (ap (counted_by (λ c. c.new)) e)))
    (same_sum faults_in ends end (ap faults_by e))
    (all_more is_well ends end) (all_more went_out ends end)

-- with one whose check met a fault
fault_more : (ends : List CheckEnding) (end : CheckEnding) (why : CheckFault) → end.answer ≡ Err why → with_fault end.ending (total_of ends) ≡ total_of (ends ++ end ∷ [])
fault_more ends end why e =
    same_total _ _ _ _ _ _ _ _ _ _ _ _ _ _ _ _ _ _ (length_more ends end)
    (same_sum (counted_in (λ c. c.same)) ends end (ap (counted_by (λ c. c.same)) e))
    (same_sum (counted_in (λ c. c.differ)) ends end (ap (counted_by (λ c. c.differ)) e))
    (same_sum (counted_in (λ c. c.unanswered)) ends end (ap (counted_by (λ c. c.unanswered)) e))
    (same_sum (counted_in (λ c. c.errors)) ends end (ap (counted_by (λ c. c.errors)) e))
    (same_sum (counted_in (λ c. c.new)) ends end (ap (counted_by (λ c. c.new)) e))
    (faulty ends end 1 (sym (ap faults_by e)))
    (all_more is_well ends end) (all_more went_out ends end)

pub more_counts : (ends : List CheckEnding) (total result : Total) (end : CheckEnding) (counts : VerdictCounts) → end.answer ≡ Ok counts → result ≡ with_counts counts end.ending total → total ≡ total_of ends
    → result ≡ total_of (ends ++ end ∷ [])
more_counts ends total result end counts e is t = is ∙ ap (with_counts counts end.ending) t ∙ counts_more ends end counts e

pub more_fault : (ends : List CheckEnding) (total result : Total) (end : CheckEnding) (why : CheckFault) → end.answer ≡ Err why → result ≡ with_fault end.ending total → total ≡ total_of ends
    → result ≡ total_of (ends ++ end ∷ [])
more_fault ends total result end why e is t = is ∙ ap (with_fault end.ending) t ∙ fault_more ends end why e

pub ruleset more = (more_counts, more_fault)

-- What another evaluation comes to, and how such are counted.
use Rattle.std.specs.Prelude.{◌≡◌, ◌+◌, ℕ, Bool, true, false, List, [], ◌∷◌, Option, Some, None}
use Rattle.worksheet.specs.declared.field.Answer.{Answer}
use Rattle.check_report.specs.declared.verdict.VerdictCounts.{VerdictCounts}
use Rattle.check_report.specs.declared.verdict.Judgement.{Judgement}
use Rattle.check_report.specs.declared.verdict.Verdict.{Verdict}
use Rattle.check_report.specs.declared.verdict.Verdict.TheVariants as verdict
use Rattle.check_report.specs.Errors.{brings_error}

-- By the answer that a field shows and the one that came: only outputs are compared, and prompts are not. To a field that shows none any
-- answer is new.
pub data Compared : Option Answer → Option Answer → Verdict → Type 0 where
  same : (shown came : Answer) → came.output ≡ shown.output → Compared (Some shown) (Some came) verdict.Same
  differs : (shown came : Answer) → (came.output ≡ shown.output → ⊥) → Compared (Some shown) (Some came) verdict.Differs
  new : (came : Answer) → Compared None (Some came) verdict.New
  unanswered : (shown : Option Answer) → Compared shown None verdict.Unanswered

-- What an evaluation is counted as, by the answer that came and what that came to: an answer that is an error is one whatever it came to.
abbrev pub judgement_of : Option Answer → Verdict → Judgement
judgement_of came v = record { verdict = v; error = brings_error came }

-- one more that came to this
abbrev pub with_verdict : Verdict → VerdictCounts → VerdictCounts
with_verdict verdict.Same counts = record counts { same = counts.same + 1 }
with_verdict verdict.Differs counts = record counts { differ = counts.differ + 1 }
with_verdict verdict.Unanswered counts = record counts { unanswered = counts.unanswered + 1 }
with_verdict verdict.LeftOut counts = record counts { left_out = counts.left_out + 1 }
with_verdict verdict.New counts = record counts { new = counts.new + 1 }

-- one more error, where it is one
abbrev pub with_error : Bool → VerdictCounts → VerdictCounts
with_error false counts = counts
with_error true counts = record counts { errors = counts.errors + 1 }

-- one more of these
abbrev pub counted_with : Judgement → VerdictCounts → VerdictCounts
counted_with j counts = with_verdict j.verdict (with_error j.error counts)

-- how many there are of each
abbrev pub counts_of : List Judgement → VerdictCounts
counts_of [] = record { same = 0; differ = 0; unanswered = 0; left_out = 0; errors = 0; new = 0 }
counts_of (one ∷ others) = counted_with one (counts_of others)

-- of how many evaluations they are
abbrev pub total : VerdictCounts → ℕ
total counts = counts.same + counts.differ + counts.unanswered + counts.left_out + counts.new

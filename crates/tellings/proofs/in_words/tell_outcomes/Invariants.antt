use Rattle.std.specs.Prelude.{ℕ}
use Rattle.worksheet.specs.Contents.{Contents}
use Rattle.tellings.specs.Words.{in_words}
use Rattle.tellings.proofs.Voices.{OutcomesWritten}
use Rattle.tellings.proofs.in_words.tell_outcomes.Given as goal

abbrev pub invariant-loop-outcome : goal.invariant-loop-outcome
invariant-loop-outcome g l =
    (line : ℕ) (sheet : Contents) → OutcomesWritten in_words sheet line l.outcomes l.outcome-index (g.W.Write.contents l.initial.writer) (g.W.Write.contents l.writer)

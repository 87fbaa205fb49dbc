use Rattle.journal_tests.specs.Batch.{Appended}
use Rattle.journal_tests.proofs.tests.batches.append_all.Given as goal

abbrev pub invariant-loop-frame : goal.invariant-loop-frame
invariant-loop-frame g l = Appended l.fn.journal l.journal l.frames l.frame-index

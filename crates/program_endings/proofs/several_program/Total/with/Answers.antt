use Rattle.program_endings.proofs.Totals.{more_counts, more_fault}
use Rattle.program_endings.proofs.several_program.Total.with.Goals as goal

pub returns-in-Ok-clause-total : goal.returns-in-Ok-clause-total
returns-in-Ok-clause-total c = λ ends is. more_counts ends c.args.self c.with_counts.result c.args.end c.in-Ok.counts c.in-Ok.is c.with_counts.ensures.counted is

pub returns-in-Err-clause-total : goal.returns-in-Err-clause-total
returns-in-Err-clause-total c = λ ends is. more_fault ends c.args.self c.with_fault.result c.args.end c.in-Err.field-0 c.in-Err.is c.with_fault.ensures.counted is

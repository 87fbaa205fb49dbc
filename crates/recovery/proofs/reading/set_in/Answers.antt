use Rattle.std.proofs.Common.{rules, arith}
use Rattle.worksheet.specs.declared.op.Op.TheVariants as op
use Rattle.recovery.specs.inside.Reading.{set_at}
use Rattle.recovery.proofs.Again.{following_first, first_and_rest}
use Rattle.recovery.proofs.Sound.{parts_by, set_sound}
use Rattle.recovery.proofs.reading.set_in.Goals as goal

pub returns : goal.returns
returns c = parts_by 3 set_at set_sound (λ set. op.Set set.0 set.1.now) c.args.bytes.now (following_first c.args.bytes.now) (first_and_rest c.args.bytes.now 3 c.in-3.len_at_least (omega arith)) (search rules) c.set_parts.result c.set_parts.ensures.read

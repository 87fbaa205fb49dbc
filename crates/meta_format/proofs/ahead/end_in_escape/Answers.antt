use Rattle.std.proofs.Common.{arith}
use Rattle.meta_format.specs.Limits.{limits}
use Rattle.meta_format.proofs.Finding.{late_in_escape}
use Rattle.meta_format.proofs.ahead.end_in_escape.Goals as goal

pub returns-clause-found : goal.returns-clause-found
returns-clause-found c =
    let high = c.requires.limit.high in
    let inside = c.if-limit-stream.false in
    late_in_escape limits _ _ _ _ c.requires.limit (omega (arith, high, inside)) c.requires.there.1

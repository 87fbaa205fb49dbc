use Rattle.std.proofs.Common.{arith, subst}
use Rattle.meta_format.specs.Limits.{limits}
use Rattle.meta_format.specs.inside.Named.{Meets}
use Rattle.meta_format.proofs.Feeds.{roomy}
use Rattle.meta_format.proofs.Finding.{spelled_there}
use Rattle.meta_format.proofs.ahead.block_from.Goals as goal

pub returns-in-Whole-clause-found : goal.returns-in-Whole-clause-found
returns-in-Whole-clause-found c =
    let s = c.args.stream.now in
    let start = c.args.start in
    let met = subst (Meets limits s start c.limit_of-limit.result) c.in-Whole.is c.block_up_to.ensures in
    let upto = met.1 in
    let high = c.limit_of-limit.ensures.high in
    (met.2, met.3, spelled_there limits roomy s start c.in-Whole.stop met.2 c.requires.some met.0 (omega (arith, upto, high)) c.requires.two c.requires.early met.3)

use Rattle.std.proofs.Common.{length, subst}
use Rattle.meta_format.specs.Limits.{limits}
use Rattle.meta_format.specs.inside.Machine.{outside}
use Rattle.meta_format.specs.inside.Flat.{ComesTo}
use Rattle.meta_format.specs.declared.ahead.Seen.TheVariants as seen
use Rattle.meta_format.proofs.Feeds.{roomy}
use Rattle.meta_format.proofs.Finding.{after_noise, comes_next, starts_later}
use Rattle.meta_format.proofs.ahead.next_outer.Goals as goal

pub returns-then-start-stream-clause-next : goal.returns-then-start-stream-clause-next
returns-then-start-stream-clause-next c blocks read =
    let s = c.args.stream.now in
    let from = c.args.from in
    comes_next limits roomy s from blocks seen.End (subst (λ n. ComesTo limits s from n outside) c.if-start-stream.true c.noise_end-start.ensures.noise) tt read

pub returns-clause-next : goal.returns-clause-next
returns-clause-next c blocks read =
    let s = c.args.stream.now in
    let from = c.args.from in
    let start = c.noise_end-start.result in
    let r = c.block_from.result in
    comes_next limits roomy s from blocks r (after_noise limits s from start r c.noise_end-start.ensures.noise c.block_from.ensures.found)
    (starts_later from start (length s) r c.noise_end-start.ensures.low c.block_from.ensures.ahead) read

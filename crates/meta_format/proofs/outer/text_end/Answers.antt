use Rattle.std.proofs.Common.{◌-◌, length, take, drop, arith, ◌≡◌}
use Rattle.std.proofs.lemmas.List.{length-take-le, length-drop}
use Rattle.meta_format.proofs.Flat.{shifted}
use Rattle.meta_format.proofs.outer.text_end.Goals as goal

pub returns-clause-plain : goal.returns-clause-plain
returns-clause-plain c =
    let s = c.args.stream.now in
    let at = c.args.at in
    let n = c.args.limit - at in
    let low = c.requires.low in
    let high = c.requires.high in
    let bound = c.text_run.ensures.bound in
    let left : length (drop at s) ≡ length s - at = length-drop at s in
    let size : length (take n (drop at s)) ≡ n = length-take-le n (drop at s) (omega (arith, left, low, high)) in
    shifted s at n c.text_run.result (omega (arith, size, bound)) c.text_run.ensures.plain

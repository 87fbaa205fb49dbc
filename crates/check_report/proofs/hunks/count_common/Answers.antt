use Rattle.std.proofs.Common.{arith, map}
use Rattle.std.proofs.lemmas.List.{length-map}
use Rattle.check_report.proofs.Runs.{common_all}
use Rattle.check_report.proofs.hunks.count_common.Goals as goal

pub returns : goal.returns
returns c =
    let old = c.args.old.now in
    let new = c.args.new.now in
    let olds = length-map old (λ line. line.now) in
    let news = length-map new (λ line. line.now) in
    let seen = common_all (map (λ line. line.now) old) (map (λ line. line.now) new) c.loop-at.at _ (omega (arith, olds, news, c.loop-at.auto.at-end, c.min-most.ensures)) c.loop-at.invariant in
    omega (arith, seen, c.loop-at.auto.at-end)

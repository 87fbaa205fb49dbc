use Rattle.std.proofs.Common.{◌≡◌, ◌+◌, subst, arith}
use Rattle.meta_format.specs.Limits.{limits}
use Rattle.meta_format.specs.inside.Flat.{InBody}
use Rattle.meta_format.proofs.Flat.{deep, whole}
use Rattle.meta_format.proofs.Feeds.{roomy}
use Rattle.meta_format.proofs.Finding.{late_in_body, spelled_there}
use Rattle.meta_format.proofs.ahead.end_in_body.Goals as goal
use Rattle.meta_format.proofs.ahead.end_in_body.Goals.{else-c-eq2-via-then-c-eq2+else-depth, else-c-eq2-via-else-c-eq2, else-c-eq5-via-then-c-eq5+else-depth-eq0, else-c-eq5-via-else-c-eq5}

pub returns-then-depth-clause-found : goal.returns-then-depth-clause-found
returns-then-depth-clause-found c =
    let high = c.requires.limit.high in
    let inside = c.if-limit-stream.false in
    let deeper = c.if-depth.true in
    deep limits _ _ _ c.args.depth (omega (arith, high, inside)) c.if-c-eq2.true (omega (arith, deeper)) c.requires.there

pub returns-then-depth-eq0-clause-found : goal.returns-then-depth-eq0-clause-found
returns-then-depth-eq0-clause-found c =
    let some = c.requires.limit.some in
    let high = c.requires.limit.high in
    let early = c.requires.limit.early in
    let inside = c.if-limit-stream.false in
    let s = c.args.stream.now in
    let start = c.args.start in
    let limit = c.args.limit in
    let none : c.args.depth ≡ 0 = c.if-depth-eq0.true in
    let made = whole limits s start limit (omega (arith, high, inside)) c.if-c-eq5.true (omega (arith, early, high, inside)) (subst (λ d. InBody limits s start limit d) none c.requires.there) in
    (_, made, spelled_there limits roomy s start (limit + 1) _ (omega (arith, some, high)) (omega (arith, some)) (omega (arith, high, inside)) c.requires.two early made)

pub returns-clause-found : goal.returns-clause-found
returns-clause-found c =
    let high = c.requires.limit.high in
    let inside = c.if-limit-stream.false in
    late_in_body limits _ _ _ c.args.depth c.requires.limit (omega (arith, high, inside)) c.requires.there
    (λ two. elim c.else-c-eq2.branch [ else-c-eq2-via-then-c-eq2+else-depth w ↦ let few = w.if-depth.false in omega (arith, few) | else-c-eq2-via-else-c-eq2 w ↦ absurd (w.if-c-eq2.false two) ])
    (λ five. elim c.else-c-eq5.branch [ else-c-eq5-via-then-c-eq5+else-depth-eq0 w ↦ let some = w.if-depth-eq0.false in omega (arith, some) | else-c-eq5-via-else-c-eq5 w ↦ absurd (w.if-c-eq5.false five) ])

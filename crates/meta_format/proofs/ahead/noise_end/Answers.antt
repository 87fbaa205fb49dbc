use Rattle.std.proofs.Common.{◌≡◌, ◌<◌, ◌≤◌, ◌-◌, ℕ, List, false, nat_eq, length, take, drop, get_or, subst, arith}
use Rattle.std.proofs.lemmas.List.{length-drop, take_all}
use Rattle.meta_format.specs.Limits.{limits}
use Rattle.meta_format.proofs.Finding.{noise_passed}
use Rattle.meta_format.proofs.ahead.noise_end.Goals as goal

pub returns-clause-noise : goal.returns-clause-noise
returns-clause-noise c =
    let s = c.args.stream.now in
    let from = c.args.from in
    let n = c.before_two.result in
    let size = length-drop from s in
    let all : take (length s - from) (drop from s) ≡ drop from s = take_all (length s - from) (drop from s) (omega (arith, size)) in
    noise_passed limits s from n c.requires.within
    (subst (λ (l : List ℕ). n ≤ length l) all c.before_two.ensures.bound)
    (subst (λ (l : List ℕ). (k : ℕ) → k < n → nat_eq (get_or l k 0) 2 ≡ false) all c.before_two.ensures.silent) c.requires.early

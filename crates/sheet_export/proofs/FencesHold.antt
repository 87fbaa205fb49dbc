-- No text closes its fence.
use Rattle.std.proofs.Common.{◌≡◌, ◌≤◌, ℕ, zero, suc, List, [], ◌∷◌, ◌++◌, ap, arith}
use Rattle.sheet_export.specs.Fences.{fence_length, fence_of, longest_run, run_at_start}
use Rattle.sheet_export.specs.Laws.{NoTextClosesItsFence}

-- so many backquotes begin with as many
begins_so : (n : ℕ) (rest : List ℕ) → n ≤ run_at_start (fence_of n ++ rest)
unfolding run_at_start
begins_so zero rest = omega arith
begins_so (suc n) rest = let so = begins_so n rest in omega (arith, so)

-- a run stands in a text wherever it stands
stands_in : (front rest : List ℕ) → run_at_start rest ≤ longest_run (front ++ rest)
unfolding longest_run run_at_start
stands_in [] [] = omega arith
stands_in [] (b ∷ rest) = omega arith
stands_in (b ∷ front) rest = let so = stands_in front rest in omega (arith, so)

pub fences_hold : NoTextClosesItsFence
fences_hold lines front following e =
    let n = fence_length lines in
    let long = begins_so n following in
    let stands = stands_in front (fence_of n ++ following) in
    let whole : longest_run lines ≡ longest_run (front ++ (fence_of n ++ following)) = ap longest_run e in
    omega (arith, long, stands, whole)

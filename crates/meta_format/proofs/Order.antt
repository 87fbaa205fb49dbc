-- The blocks that the machine finds lie in order, and close within the bytes that it takes.
use Rattle.std.proofs.Common.{◌≡◌, ℕ, zero, suc, ◌+◌, ◌≤◌, cond, nat_eq, nat_le, List, [], ◌∷◌, ◌++◌, length, sym, ap, subst, arith}
use Rattle.std.proofs.lemmas.Bool.{cond_both}
use Rattle.block_tree.specs.inside.Marks.{Mark, open_mark, letter, close_mark}
use Rattle.meta_format.specs.Limits.{Limits}
use Rattle.meta_format.specs.Spelling.{is_special, is_separator}
use Rattle.block_tree.specs.inside.Marks.{tree_from}
use Rattle.meta_format.specs.Stream.{Outer}
use Rattle.meta_format.specs.Faults.{bad_tag, too_deep, too_long}
use Rattle.meta_format.specs.inside.Machine.{Mode, outside, tag_of, body_of, escape_of, broken, Change, halts, turns, ends, stays, apply, is_bad_tag, is_late, unless_late, closing, after, run}
use Rattle.meta_format.specs.Reader.{CloseWithin, StartAfter}
use Rattle.meta_format.proofs.Unique.{run-following, run_broken, block_at}

-- the open block starts there or later
abbrev BegunAfter : ℕ → Mode → Type 0
BegunAfter k outside = Unit {0}
BegunAfter k (tag_of start ms levels name) = k ≤ start
BegunAfter k (body_of start ms d) = k ≤ start
BegunAfter k (escape_of start ms d) = k ≤ start
BegunAfter k (broken kind f) = Unit {0}

abbrev Keeps : ℕ → Change → Type 0
Keeps k (halts kind) = Unit {0}
Keeps k (turns mode) = BegunAfter k mode
Keeps k (ends start ms) = k ≤ start
Keeps k stays = Unit {0}

unless_kept : (most : Limits) (k start at : ℕ) (mode : Mode) → BegunAfter k mode → Keeps k (unless_late most start at mode)
unless_kept most k start at mode h = cond_both (is_late most start at) (halts too_long) (turns mode) (Keeps k) (λ e. tt) (λ e. h)

close_kept : (most : Limits) (k at start : ℕ) (ms : List Mark) (d : ℕ) → k ≤ start → Keeps k (closing most at start ms d)
close_kept most k at start ms zero h = cond_both (nat_le most.stream at) (halts too_long) (ends start (ms ++ close_mark ∷ [])) (Keeps k) (λ e. tt) (λ e. h)
close_kept most k at start ms (suc d) h = unless_kept most k start at (body_of start (ms ++ close_mark ∷ []) d) h

kept : (most : Limits) (k at : ℕ) (mode : Mode) (c : ℕ) → k ≤ at → BegunAfter k mode → Keeps k (after most at mode c)
kept most k at outside c h b =
    cond_both (nat_le most.stream at) (halts too_long) (turns (cond (nat_eq c 2) (tag_of at [] 0 []) outside)) (Keeps k) (λ e. tt)
    (λ e. cond_both (nat_eq c 2) (tag_of at [] 0 []) outside (BegunAfter k) (λ f. h) (λ f. tt))
kept most k at (tag_of start ms levels name) c h b =
    cond_both (is_bad_tag most.tag name c) (halts bad_tag)
    (unless_late most start at (cond (is_separator c) (body_of start (ms ++ open_mark (nat_eq c 35) name ∷ []) levels) (tag_of start ms levels (name ++ c ∷ [])))) (Keeps k) (λ e. tt)
    (λ e. unless_kept most k start at (cond (is_separator c) (body_of start (ms ++ open_mark (nat_eq c 35) name ∷ []) levels) (tag_of start ms levels (name ++ c ∷ [])))
    (cond_both (is_separator c) (body_of start (ms ++ open_mark (nat_eq c 35) name ∷ []) levels) (tag_of start ms levels (name ++ c ∷ [])) (BegunAfter k) (λ f. b) (λ f. b)))
kept most k at (body_of start ms d) c h b =
    cond_both (nat_eq c 2) (cond (nat_le most.levels (suc d)) (halts too_deep) (unless_late most start at (tag_of start ms (suc d) [])))
    (cond (nat_eq c 5) (closing most at start ms d) (unless_late most start at (cond (nat_eq c 27) (escape_of start ms d) (body_of start (ms ++ letter c ∷ []) d)))) (Keeps k)
    (λ e. cond_both (nat_le most.levels (suc d)) (halts too_deep) (unless_late most start at (tag_of start ms (suc d) [])) (Keeps k) (λ f. tt) (λ f. unless_kept most k start at (tag_of start ms (suc d) []) b))
    (λ e. cond_both (nat_eq c 5) (closing most at start ms d) (unless_late most start at (cond (nat_eq c 27) (escape_of start ms d) (body_of start (ms ++ letter c ∷ []) d))) (Keeps k)
    (λ f. close_kept most k at start ms d b)
    (λ f. unless_kept most k start at (cond (nat_eq c 27) (escape_of start ms d) (body_of start (ms ++ letter c ∷ []) d))
    (cond_both (nat_eq c 27) (escape_of start ms d) (body_of start (ms ++ letter c ∷ []) d) (BegunAfter k) (λ g. b) (λ g. b))))
kept most k at (escape_of start ms d) c h b = unless_kept most k start at (body_of start (ms ++ cond (is_special c) (letter c ∷ []) (letter 27 ∷ letter c ∷ [])) d) b
kept most k at (broken kind f) c h b = tt

-- a run after a block that was found
found_first : (most : Limits) (x : Outer) (at : ℕ) (s : List ℕ) → (run most record { at = at; out = x ∷ []; mode = outside } s).out ≡ x ∷ (run most record { at = at; out = []; mode = outside } s).out
found_first most x at s = ap (λ q. q.out) (run-following most (x ∷ []) record { at = at; out = []; mode = outside } s)

starts : (most : Limits) (s : List ℕ) (k at : ℕ) (mode : Mode) → k ≤ at → BegunAfter k mode → StartAfter k (run most record { at = at; out = []; mode = mode } s).out
starts most [] k at mode h b = tt
starts most (c ∷ s) k at mode h b = by_change (λ n other. starts most s k n other) (after most at mode c) (kept most k at mode c h b)
  where
    by_change : ((n : ℕ) (other : Mode) → k ≤ n → BegunAfter k other → StartAfter k (run most record { at = n; out = []; mode = other } s).out)
        → (w : Change) → Keeps k w → StartAfter k (run most (apply record { at = at; out = []; mode = mode } w) s).out
    by_change onward (halts kind) g = subst (λ q. StartAfter k q.out) (sym (run_broken most at at [] kind s)) tt
    by_change onward (turns other) g = onward (suc at) other (omega arith) g
    by_change onward (ends start ms) g = subst (StartAfter k) (sym (found_first most (block_at start (suc at) (tree_from ms)) (suc at) s)) g
    by_change onward stays g = onward at mode h b

pub closes : (most : Limits) (s : List ℕ) (from to at : ℕ) (mode : Mode) → from ≤ at → at + length s ≤ to → CloseWithin from to (run most record { at = at; out = []; mode = mode } s).out
closes most [] from to at mode h k = tt
closes most (c ∷ s) from to at mode h k = by_change (λ n other. closes most s from to n other) (after most at mode c)
  where
    by_change : ((n : ℕ) (other : Mode) → from ≤ n → n + length s ≤ to → CloseWithin from to (run most record { at = n; out = []; mode = other } s).out)
        → (w : Change) → CloseWithin from to (run most (apply record { at = at; out = []; mode = mode } w) s).out
    by_change onward (halts kind) = subst (λ q. CloseWithin from to q.out) (sym (run_broken most at at [] kind s)) tt
    by_change onward (turns other) = onward (suc at) other (omega arith) (omega arith)
    by_change onward (ends start ms) = subst (CloseWithin from to) (sym (found_first most (block_at start (suc at) (tree_from ms)) (suc at) s))
        (omega arith, omega arith, starts most s (suc at) (suc at) outside (omega arith) tt, onward (suc at) outside (omega arith) (omega arith))
    by_change onward stays = onward at mode h (omega arith)

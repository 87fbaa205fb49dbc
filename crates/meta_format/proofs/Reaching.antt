-- The blocks and the faults of a stream are those that the machine finds.
use Rattle.std.proofs.Common.{◌≡◌, ℕ, suc, ◌+◌, ◌<◌, ◌≤◌, cond, nat_eq, nat_le, not, List, [], ◌∷◌, ◌++◌, length, refl, sym, ap, ◌∙◌, subst, arith, append_assoc, append-nil, length-append, ◌⊎◌, inl, inr, ⊎_elim, add-zero}
use Rattle.std.proofs.lemmas.Bool.{cond_both, cond-false, lt-leb, eqb-true, not_from_false, and_parts, not-true, leb-false, leb-true}
use Rattle.std.specs.List.{list_all}
use Rattle.block_tree.specs.Tree.{Tree}
use Rattle.meta_format.specs.Limits.{Limits, IsRoomy}
use Rattle.meta_format.specs.Spelling.{separator}
use Rattle.meta_format.specs.inside.Rows.{nothing}
use Rattle.block_tree.specs.inside.Marks.{tree_from}
use Rattle.meta_format.specs.Stream.{Outer, IsNoise, IsOuter, Chain, none, next as chain_next, IsOpenTail, Stream}
use Rattle.meta_format.specs.Faults.{OpenLevels, no_level, one_more, Kind, bad_tag, too_deep, too_long, Place, EndsIn, IsWrong, Closes, IsFault}
use Rattle.meta_format.specs.inside.Machine.{Mode, outside, tag_of, body_of, escape_of, broken, State, start_state, Change, halts, turns, ends, stays, apply, after, next, run, IsAlive}
use Rattle.meta_format.proofs.Spelled.{run-append}
use Rattle.meta_format.proofs.Tags.{list_all-push}
use Rattle.meta_format.proofs.Unique.{run-following, run_broken, block_at, block_run}
use Rattle.meta_format.proofs.Places.{HasPlace, place_run}
use Rattle.meta_format.proofs.Tails.{Shape, StartsAt, Outcome, outcome}

abbrev begin : ℕ → List Outer → State
begin a out = record { at = a; out = out; mode = outside }

abbrev fallen_at : ℕ → List Outer → Kind → State
fallen_at at out kind = record { at = at; out = out; mode = broken kind at }

-- the machine in an open tail
pub record Going (most : Limits) (a : ℕ) (out : List Outer) (tail : List ℕ) (q : State) : Type 0 where
  pub at : q.at ≡ a + length tail
  pub out_is : q.out ≡ out
  pub starts : StartsAt a q.mode
  pub shape : Shape most tail q.mode
  pub short : length tail < most.block
  pub early : q.at ≤ most.stream
  pub begins : (more : List ℕ) × (tail ≡ 2 ∷ more)
  pub ran : run most (begin a out) tail ≡ q

pub only_at : (most : Limits) (a : ℕ) (out : List Outer) (tail : List ℕ) (q : State) → Going most a out tail q → (place : Place) → EndsIn most tail place → HasPlace q.mode place
only_at most a out tail q g place st =
    let at = g.at in let early = g.early in
    let there = place_run most a out tail place st g.short (omega arith) in
    let e = sym there.ran ∙ g.ran in
    subst (λ m. HasPlace m place) (ap (λ p. p.mode) e) there.there

pub data After (most : Limits) (a : ℕ) (out : List Outer) (tail : List ℕ) (c : ℕ) (q : State) : Type 0 where
  goes_on : Going most a out (tail ++ c ∷ []) q → ((kind : Kind) → IsWrong most tail c kind → ⊥) → After most a out tail c q
  ends_there : (b : Tree) → IsOuter most a b (tail ++ c ∷ []) → Closes most tail c → ((kind : Kind) → IsWrong most tail c kind → ⊥)
      → q ≡ record { at = a + length (tail ++ c ∷ []); out = out ++ block_at a (a + length (tail ++ c ∷ [])) b ∷ []; mode = outside } → After most a out tail c q
  breaks : (kind : Kind) → IsFault most (a + length tail) tail c kind → q ≡ fallen_at (a + length tail) out kind → After most a out tail c q

changed : (most : Limits) (a : ℕ) (out : List Outer) (tail : List ℕ) (c : ℕ) (q : State) → Going most a out tail q → (w : Change) → after most q.at q.mode c ≡ w
    → Outcome most a q.at tail c w → After most a out tail c (apply q w)
changed most a out tail c q g (halts kind) e h =
    breaks kind (subst (λ n. IsFault most n tail c kind) g.at h) (ap (λ n. fallen_at n q.out kind) g.at ∙ ap (λ o. fallen_at (a + length tail) o kind) g.out_is)
changed most a out tail c q g (turns mode) e (shape, starts, short, early, right) =
    let at = g.at in
    let longer = length-append tail (c ∷ []) in
    goes_on record {
      at = omega arith;
      out_is = g.out_is;
      starts = starts;
      shape = shape;
      short = omega arith;
      early = omega arith;
      begins = (g.begins.0 ++ c ∷ [], ap (λ t. t ++ c ∷ []) g.begins.1);
      ran = run-append most (begin a out) tail (c ∷ []) ∙ ap (λ p. next most p c) g.ran ∙ ap (apply q) e;
    } right
changed most a out tail c q g (ends start ms) e (same, outer, shut, right) =
    let at = g.at in
    let longer = length-append tail (c ∷ []) in
    let stop : suc q.at ≡ a + length (tail ++ c ∷ []) = omega arith in
    ends_there (tree_from ms) outer shut right
    (ap (λ n. record { at = n; out = q.out ++ block_at start n (tree_from ms) ∷ []; mode = outside }) stop
    ∙ ap (λ o. record { at = a + length (tail ++ c ∷ []); out = o ++ block_at start (a + length (tail ++ c ∷ [])) (tree_from ms) ∷ []; mode = outside }) g.out_is
    ∙ ap (λ n. record { at = a + length (tail ++ c ∷ []); out = out ++ block_at n (a + length (tail ++ c ∷ [])) (tree_from ms) ∷ []; mode = outside }) same)
changed most a out tail c q g stays e h = absurd h

pub going_step : (most : Limits) (a : ℕ) (out : List Outer) (tail : List ℕ) (c : ℕ) (q : State) → Going most a out tail q → After most a out tail c (next most q c)
going_step most a out tail c q g =
    changed most a out tail c q g (after most q.at q.mode c) refl (outcome most a q.at tail g.at g.short g.early c q.mode g.shape g.starts (only_at most a out tail q g))

-- a front that is a block is seen
pub front_seen : (most : Limits) (a : ℕ) (out : List Outer) (t : Tree) (front more : List ℕ) → IsOuter most a t front → length out < length (run most (begin a out) (front ++ more)).out
front_seen most a out t front more b =
    let x = block_at a (a + length front) t in
    let e = run-append most (begin a out) front more ∙ ap (λ q. run most q more) (block_run most t front a out b)
    ∙ ap (λ o. run most record { at = a + length front; out = o; mode = outside } more) (sym (append-nil (out ++ x ∷ [])))
    ∙ run-following most (out ++ x ∷ []) (begin (a + length front) []) more in
    let f = ap (λ q. length q.out) e in
    let g = length-append (out ++ x ∷ []) (run most (begin (a + length front) []) more).out in
    let h = length-append out (x ∷ []) in
    omega arith

pub going_open : (most : Limits) (a : ℕ) (out : List Outer) (tail : List ℕ) (q : State) → Going most a out tail q → IsOpenTail most a tail
going_open most a out tail q g = record {
  begins = g.begins;
  unfinished = λ t front more e b.
      let seen = front_seen most a out t front more b in
      let same = ap (λ z. length (run most (begin a out) z).out) (sym e) ∙ ap (λ p. length p.out) g.ran ∙ ap length g.out_is in
      absurd (omega arith);
}

pub first_byte : (most : Limits) (a : ℕ) (out : List Outer) → IsRoomy most → a < most.stream → Going most a out (2 ∷ []) (next most (begin a out) 2)
first_byte most a out fit free =
    let e = cond-false (nat_le most.stream a) (halts too_long) (turns (tag_of a [] 0 [])) (lt-leb most.stream a free) in
    let made : Going most a out (2 ∷ []) (apply (begin a out) (turns (tag_of a [] 0 []))) = record {
      at = omega arith;
      out_is = refl;
      starts = refl;
      shape = ([], refl, fit.levels, nothing, refl, omega arith, refl);
      short = fit.block;
      early = omega arith;
      begins = ([], refl);
      ran = ap (apply (begin a out)) e;
    } in
    subst (λ w. Going most a out (2 ∷ []) (apply (begin a out) w)) (sym e) made

abbrev pub IsBrokenWith : List Outer → State → Type 0
IsBrokenWith out q = (kind : Kind) × (f : ℕ) × (q ≡ record { at = q.at; out = out; mode = broken kind f })

abbrev Rests : Limits → ℕ → List Outer → List ℕ → State → Type 0
Rests most a out tail q = (Going most a out tail q) ⊎ (IsBrokenWith out q)

onward : (most : Limits) (a : ℕ) (out : List Outer) (tail : List ℕ) (c : ℕ) (t : List ℕ) → IsOpenTail most a (tail ++ c ∷ t)
    → ((p : State) → Going most a out (tail ++ c ∷ []) p → Rests most a out ((tail ++ c ∷ []) ++ t) (run most p t))
    → (p : State) → After most a out tail c p → Rests most a out (tail ++ c ∷ t) (run most p t)
onward most a out tail c t o ih p (goes_on h right) = subst (λ x. Rests most a out x (run most p t)) (append_assoc tail (c ∷ []) t) (ih p h)
onward most a out tail c t o ih p (ends_there x b shut right e) = absurd (o.unfinished x (tail ++ c ∷ []) t (sym (append_assoc tail (c ∷ []) t)) b)
onward most a out tail c t o ih p (breaks kind fault e) =
    let f = ap (λ x. run most x t) e ∙ run_broken most (a + length tail) (a + length tail) out kind t in
    inr (kind, a + length tail, f ∙ ap (λ n. record { at = n; out = out; mode = broken kind (a + length tail) }) (sym (ap (λ x. x.at) f)))

-- no block is found in an open tail
quiet : (most : Limits) (a : ℕ) (out : List Outer) (tail t : List ℕ) (q : State) → Going most a out tail q → IsOpenTail most a (tail ++ t)
    → Rests most a out (tail ++ t) (run most q t)
quiet most a out tail [] q g o = inl (subst (λ x. Going most a out x q) (sym (append-nil tail)) g)
quiet most a out tail (c ∷ t) q g o =
    onward most a out tail c t o (λ p h. quiet most a out (tail ++ c ∷ []) t p h (subst (λ x. IsOpenTail most a x) (sym (append_assoc tail (c ∷ []) t)) o))
    (next most q c) (going_step most a out tail c q g)

pub noise_run : (most : Limits) (at : ℕ) (out : List Outer) (noise : List ℕ) → IsNoise noise → at + length noise ≤ most.stream
    → run most (begin at out) noise ≡ begin (at + length noise) out
noise_run most at out [] h early = ap (λ n. begin n out) (sym (add-zero at))
noise_run most at out (c ∷ noise) h early =
    let parts = and_parts (not (nat_eq c 2)) (list_all (λ x. not (nat_eq x 2)) noise) h in
    let free : at < most.stream = omega arith in
    ap (λ w. run most (apply (begin at out) w) noise) (cond-false _ _ _ (lt-leb most.stream at free) ∙ ap turns (cond-false _ _ _ (not-true (nat_eq c 2) parts.0)))
    ∙ noise_run most (suc at) out noise parts.1 (omega arith) ∙ ap (λ n. begin n out) (omega arith)

pub chain_run : (most : Limits) (blocks : List Outer) (text : List ℕ) → Chain most blocks text → run most start_state text ≡ begin (length text) blocks
chain_run most _ _ none = refl
chain_run most _ _ (chain_next {blocks} {before} noise text x chain silent b) =
    let early = b.early in
    let long = length-append before noise in
    let longer = length-append (before ++ noise) text in
    let whole : length (before ++ noise) + length text ≡ length (before ++ noise ++ text) = omega arith in
    run-append most start_state (before ++ noise) text
    ∙ ap (λ q. run most q text) (run-append most start_state before noise ∙ ap (λ q. run most q noise) (chain_run most blocks before chain)
    ∙ noise_run most (length before) blocks noise silent (omega arith) ∙ ap (λ n. begin n blocks) (sym long))
    ∙ block_run most x text (length (before ++ noise)) blocks b
    ∙ ap (λ n. begin n (blocks ++ block_at (length (before ++ noise)) n x ∷ [])) whole

-- after the noise
pub lead_run : (most : Limits) (blocks : List Outer) (before noise : List ℕ) → Chain most blocks before → IsNoise noise → length (before ++ noise) ≤ most.stream
    → run most start_state (before ++ noise) ≡ begin (length (before ++ noise)) blocks
lead_run most blocks before noise chain silent early =
    let long = length-append before noise in
    run-append most start_state before noise ∙ ap (λ q. run most q noise) (chain_run most blocks before chain)
    ∙ noise_run most (length before) blocks noise silent (omega arith) ∙ ap (λ n. begin n blocks) (sym long)

-- where a stream leaves the machine
pub data Left (most : Limits) (s : List ℕ) (blocks : List Outer) (tail : List ℕ) (q : State) : Type 0 where
  clear : (before noise : List ℕ) → s ≡ before ++ noise → Chain most blocks before → IsNoise noise → tail ≡ [] → q ≡ begin (length s) blocks → Left most s blocks tail q
  going : (before noise : List ℕ) → s ≡ before ++ noise ++ tail → Chain most blocks before → IsNoise noise → Going most (length (before ++ noise)) blocks tail q → Left most s blocks tail q
  fallen : IsBrokenWith blocks q → Left most s blocks tail q

pub left : (most : Limits) → IsRoomy most → (s : List ℕ) (blocks : List Outer) (tail : List ℕ) → Stream most s blocks tail → length s ≤ most.stream → Left most s blocks tail (run most start_state s)
left most fit s blocks tail st early = ⊎_elim none_left some_left st.rest
  where
    lead : length (st.before ++ st.noise) ≤ most.stream
    lead = let e = ap length st.is in let f = length-append (st.before ++ st.noise) tail in omega arith

    none_left : tail ≡ [] → Left most s blocks tail (run most start_state s)
    none_left e =
        let whole = st.is ∙ ap (λ t. st.before ++ st.noise ++ t) e ∙ append-nil (st.before ++ st.noise) in
        clear st.before st.noise whole st.chain st.silent e
        (ap (run most start_state) whole ∙ lead_run most blocks st.before st.noise st.chain st.silent lead ∙ ap (λ n. begin n blocks) (sym (ap length whole)))

    some_left : IsOpenTail most (length (st.before ++ st.noise)) tail → Left most s blocks tail (run most start_state s)
    some_left o2 =
        let a = length (st.before ++ st.noise) in
        let long = length-append st.before st.noise in
        let more = o2.begins.0 in
        let e = o2.begins.1 in
        let ran = ap (run most start_state) st.is ∙ run-append most start_state (st.before ++ st.noise) tail
        ∙ ap (λ q. run most q tail) (lead_run most blocks st.before st.noise st.chain st.silent lead) ∙ ap (run most (begin a blocks)) e in
        let f = ap length st.is in
        let g = length-append (st.before ++ st.noise) tail in
        let h = ap length e in
        let begun = first_byte most a blocks fit (omega arith) in
        let rest = quiet most a blocks (2 ∷ []) more (next most (begin a blocks) 2) begun (subst (λ t. IsOpenTail most a t) e o2) in
        ⊎_elim
        (λ go. going st.before st.noise st.is st.chain st.silent (subst (λ t. Going most a blocks t (run most start_state s)) (sym e) (subst (λ q. Going most a blocks (2 ∷ more) q) (sym ran) go)))
        (λ br. fallen (subst (λ q. IsBrokenWith blocks q) (sym ran) br)) rest

pub alive_before : (most : Limits) (at : ℕ) (out : List Outer) (mode : Mode) (t : List ℕ) → IsAlive (run most record { at = at; out = out; mode = mode } t).mode → IsAlive mode
alive_before most at out outside t h = tt
alive_before most at out (tag_of start ms levels name) t h = tt
alive_before most at out (body_of start ms d) t h = tt
alive_before most at out (escape_of start ms d) t h = tt
alive_before most at out (broken kind f) t h = subst (λ q. IsAlive q.mode) (run_broken most at f out kind t) h

pub going_alive : (most : Limits) (tail : List ℕ) (mode : Mode) → Shape most tail mode → IsAlive mode
going_alive most tail outside h = tt
going_alive most tail (tag_of start ms levels name) h = tt
going_alive most tail (body_of start ms d) h = tt
going_alive most tail (escape_of start ms d) h = tt
going_alive most tail (broken kind f) h = h

no_levels : (most : Limits) (n : ℕ) (s : List ℕ) → OpenLevels most n s → s ≡ [] → n ≡ 0
no_levels most _ _ no_level e = refl
no_levels most _ _ (one_more b outer body o h p) e = let f = ap length e in let g = length-append outer (2 ∷ (b.name ++ separator b.channel ∷ body)) in absurd (omega arith)

pub right_outside : (most : Limits) (c : ℕ) (kind : Kind) → IsWrong most [] c kind → ⊥
right_outside most c bad_tag (name, (n, outer, o, room, each, few, e), bad) =
    let f = ap length e in let g = length-append outer (2 ∷ name) in absurd (omega arith)
right_outside most c too_deep ((some, o), two) = let none = no_levels most most.levels [] o refl in absurd (omega arith)
right_outside most c too_long w = w

-- what the machine knows of a stream
pub data Reached (most : Limits) (s : List ℕ) (blocks : List Outer) (q : State) : Type 0 where
  at_noise : (before noise : List ℕ) → s ≡ before ++ noise → Chain most blocks before → IsNoise noise → q ≡ begin (length s) blocks → length s ≤ most.stream → Reached most s blocks q
  at_tail : (before noise tail : List ℕ) → s ≡ before ++ noise ++ tail → Chain most blocks before → IsNoise noise → Going most (length (before ++ noise)) blocks tail q → Reached most s blocks q
  at_fault : (front : List ℕ) (byte : ℕ) (more tail : List ℕ) (kind : Kind) → s ≡ front ++ byte ∷ more → Stream most front blocks tail → IsFault most (length front) tail byte kind
      → IsAlive (run most start_state front).mode → q ≡ fallen_at (length front) blocks kind → Reached most s blocks q

abbrev Reaches : Limits → List ℕ → State → Type 0
Reaches most s q = (blocks : List Outer) × Reached most s blocks q

from_noise : (most : Limits) → IsRoomy most → (before noise s : List ℕ) (blocks : List Outer) (c : ℕ) → s ≡ before ++ noise → Chain most blocks before → IsNoise noise
    → run most start_state s ≡ begin (length s) blocks → length s ≤ most.stream → Reaches most (s ++ c ∷ []) (next most (begin (length s) blocks) c)
from_noise most fit before noise s blocks c e chain silent ran early =
    let stream : Stream most s blocks [] = record { before = before; noise = noise; is = e ∙ sym (append-nil (before ++ noise)); chain = chain; silent = silent; rest = inl refl } in
    let longer = length-append s (c ∷ []) in
    let q = begin (length s) blocks in
    cond_both (nat_le most.stream (length s)) (halts too_long) (turns (cond (nat_eq c 2) (tag_of (length s) [] 0 []) outside)) (λ w. Reaches most (s ++ c ∷ []) (apply q w))
    (λ h. (blocks, at_fault s c [] [] too_long refl stream (right_outside most c, inr (let g = leb-true most.stream (length s) h in let k : length s ≡ most.stream = omega arith in k)) (subst (λ p. IsAlive p.mode) (sym ran) tt) refl))
    (λ h. let free = leb-false most.stream (length s) h in
    cond_both (nat_eq c 2) (tag_of (length s) [] 0 []) outside (λ mode. Reaches most (s ++ c ∷ []) (apply q (turns mode)))
    (λ two. let begun = first_byte most (length s) blocks fit free in
    let step : next most q 2 ≡ apply q (turns (tag_of (length s) [] 0 [])) = ap (apply q) (cond-false _ _ _ h) in
    let begun2 = subst (λ p. Going most (length s) blocks (2 ∷ []) p) step begun in
    (blocks, at_tail before noise (2 ∷ []) (ap (λ x. s ++ x ∷ []) (eqb-true c 2 two) ∙ ap (λ x. x ++ 2 ∷ []) e) chain silent (subst (λ n. Going most n blocks (2 ∷ []) (apply q (turns (tag_of (length s) [] 0 [])))) (ap length e) begun2)))
    (λ other. (
      blocks,
      at_noise before (noise ++ c ∷ []) (ap (λ x. x ++ c ∷ []) e ∙ append_assoc before noise (c ∷ [])) chain (list_all-push (λ x. not (nat_eq x 2)) noise c silent (not_from_false (nat_eq c 2) other))
          (ap (λ n. begin n blocks) (let f : suc (length s) ≡ length (s ++ c ∷ []) = omega arith in f)) (omega arith),
    )))

from_tail : (most : Limits) (before noise tail s : List ℕ) (blocks : List Outer) (c : ℕ) (q p : State) → s ≡ before ++ noise ++ tail → Chain most blocks before → IsNoise noise
    → Going most (length (before ++ noise)) blocks tail q → run most start_state s ≡ q → After most (length (before ++ noise)) blocks tail c p → Reaches most (s ++ c ∷ []) p
from_tail most before noise tail s blocks c q p e chain silent g ran (goes_on h right) =
    (blocks, at_tail before noise (tail ++ c ∷ []) (ap (λ x. x ++ c ∷ []) e ∙ append_assoc (before ++ noise) tail (c ∷ [])) chain silent h)
from_tail most before noise tail s blocks c q p e chain silent g ran (ends_there x b shut right f) =
    let text = tail ++ c ∷ [] in
    let a = length (before ++ noise) in
    let whole : s ++ c ∷ [] ≡ before ++ noise ++ text = ap (λ x. x ++ c ∷ []) e ∙ append_assoc (before ++ noise) tail (c ∷ []) in
    let long = length-append (before ++ noise) text in
    let early = b.early in
    let size = ap length whole in (
      blocks ++ block_at a (length (before ++ noise ++ text)) x ∷ [],
      at_noise (before ++ noise ++ text) [] (whole ∙ sym (append-nil (before ++ noise ++ text))) (chain_next noise text x chain silent b) refl
          (f ∙ ap (λ n. begin n (blocks ++ block_at a n x ∷ [])) (sym long) ∙ ap (λ n. begin n (blocks ++ block_at a (length (before ++ noise ++ text)) x ∷ [])) (sym size)) (omega arith),
    )
from_tail most before noise tail s blocks c q p e chain silent g ran (breaks kind fault f) =
    let a = length (before ++ noise) in
    let long = length-append (before ++ noise) tail in
    let size : a + length tail ≡ length s = omega (arith, ap length e) in
    let split = length-append before noise in
    let stream : Stream most s blocks tail = record { before = before; noise = noise; is = e; chain = chain; silent = silent; rest = inr (going_open most a blocks tail q g) } in
    (blocks, at_fault s c [] tail kind refl stream (subst (λ n. IsFault most n tail c kind) size fault) (subst (λ x. IsAlive x.mode) (sym ran) (going_alive most tail q.mode g.shape)) (f ∙ ap (λ n. fallen_at n blocks kind) size))

reach_step : (most : Limits) → IsRoomy most → (s : List ℕ) (blocks : List Outer) (q : State) (c : ℕ) → run most start_state s ≡ q → Reached most s blocks q → Reaches most (s ++ c ∷ []) (next most q c)
reach_step most fit s blocks q c ran (at_noise before noise e chain silent there early) =
    subst (λ p. Reaches most (s ++ c ∷ []) (next most p c)) (sym there) (from_noise most fit before noise s blocks c e chain silent (ran ∙ there) early)
reach_step most fit s blocks q c ran (at_tail before noise tail e chain silent g) =
    from_tail most before noise tail s blocks c q (next most q c) e chain silent g ran (going_step most (length (before ++ noise)) blocks tail c q g)
reach_step most fit s blocks q c ran (at_fault front byte more tail kind e stream fault alive there) =
    (blocks, at_fault front byte (more ++ c ∷ []) tail kind (ap (λ x. x ++ c ∷ []) e ∙ append_assoc front (byte ∷ more) (c ∷ [])) stream fault alive (ap (λ p. next most p c) there))

reach_from : (most : Limits) → IsRoomy most → (t s : List ℕ) → Reaches most s (run most start_state s) → Reaches most (s ++ t) (run most start_state (s ++ t))
reach_from most fit [] s r = subst (λ x. Reaches most x (run most start_state x)) (sym (append-nil s)) r
reach_from most fit (c ∷ t) s r =
    let step = reach_step most fit s r.0 (run most start_state s) c refl r.1 in
    let here : Reaches most (s ++ c ∷ []) (run most start_state (s ++ c ∷ [])) = subst (λ p. Reaches most (s ++ c ∷ []) p) (sym (run-append most start_state s (c ∷ []))) step in
    subst (λ x. Reaches most x (run most start_state x)) (append_assoc s (c ∷ []) t) (reach_from most fit t (s ++ c ∷ []) here)

pub reach : (most : Limits) → IsRoomy most → (s : List ℕ) → Reaches most s (run most start_state s)
reach most fit s = reach_from most fit s [] ([], at_noise [] [] refl none refl refl (omega arith))

-- One block for each spelling, and no spelling begins another.
use Rattle.std.proofs.Common.{◌≡◌, ℕ, suc, ◌+◌, ◌<◌, ◌≤◌, true, List, [], ◌∷◌, ◌++◌, length, refl, sym, ap, ◌∙◌, subst, arith, append_assoc, length-append}
use Rattle.std.proofs.lemmas.Bool.{cond-false, lt-leb}
use Rattle.block_tree.specs.inside.Marks.{Mark, open_mark, marks}
use Rattle.meta_format.specs.Limits.{Limits}
use Rattle.block_tree.specs.Tree.{Tree}
use Rattle.block_tree.specs.Shape.{is_block_within}
use Rattle.meta_format.specs.Spelling.{separator, Spells}
use Rattle.meta_format.specs.inside.Rows.{SpellsMarks, nothing, plain, escaped, both, opened, closed, Begins}
use Rattle.block_tree.specs.inside.Marks.{tree_from}
use Rattle.meta_format.specs.Stream.{Outer, IsOuter}
use Rattle.meta_format.specs.Faults.{Kind}
use Rattle.meta_format.specs.inside.Machine.{outside, tag_of, broken, State, Change, halts, turns, ends, stays, apply, after, next, run}
use Rattle.meta_format.proofs.Spelled.{run-append, length_marks, Leads-room, room, landing, landing_at, tag_run, tag_ends, spelled_run}
use Rattle.meta_format.proofs.Tags.{tag_some, tag_few, tag_bytes}
use Rattle.meta_format.proofs.Bridge.{spelled_marks, whole_marks, begun_ended}
use Rattle.block_tree.proofs.Rebuilt.{tree_from_marks}

-- the same state with blocks found before
abbrev pub following : List Outer → State → State
following a q = record { at = q.at; out = a ++ q.out; mode = q.mode }

pub apply_after : (a : List Outer) (q : State) (w : Change) → apply (following a q) w ≡ following a (apply q w)
apply_after a q (halts kind) = refl
apply_after a q (turns mode) = refl
apply_after a q (ends start ms) = ap (λ o. record { at = suc q.at; out = o; mode = outside }) (append_assoc a q.out (record { start = start; stop = suc q.at; block = tree_from ms } ∷ []))
apply_after a q stays = refl

pub run-following : (most : Limits) (a : List Outer) (q : State) (s : List ℕ) → run most (following a q) s ≡ following a (run most q s)
run-following most a q [] = refl
run-following most a q (c ∷ s) = ap (λ p. run most p s) (apply_after a q (after most q.at q.mode c)) ∙ run-following most a (next most q c) s

pub run_broken : (most : Limits) (at f : ℕ) (out : List Outer) (kind : Kind) (s : List ℕ) → run most record { at = at; out = out; mode = broken kind f } s ≡ record { at = at; out = out; mode = broken kind f }
run_broken most at f out kind [] = refl
run_broken most at f out kind (c ∷ s) = run_broken most at f out kind s

-- from outside, over what begins a block
pub open_run : (most : Limits) {ms : List Mark} {s : List ℕ} → SpellsMarks most.tag ms s → (at : ℕ) (out : List Outer) (e : ℕ) → Begins most.levels ms e
    → length s + room e ≤ most.block → at + length s ≤ most.stream → run most record { at = at; out = out; mode = outside } s ≡ landing (at + length s) out at ms e
open_run most nothing at out e o short early = absurd o
open_run most (plain h p) at out e o short early = absurd o
open_run most (escaped h p) at out e o short early = absurd o
open_run most (both h p) at out e o short early = absurd o
open_run most (closed p) at out e o short early = absurd o
open_run most (opened {channel} {name} {ms} {s} h p) at out e o short early =
    let more = Leads-room most.levels 0 ms e o.1 in
    let least = length_marks p in
    let whole = length-append name (separator channel ∷ s) in
    let some = tag_some most.tag name h in
    let free : at < most.stream = omega arith in
    ap (λ w. run most (apply record { at = at; out = out; mode = outside } w) (name ++ separator channel ∷ s)) (cond-false _ _ _ (lt-leb most.stream at free))
    ∙ tag_run most out at [] 0 name (suc at) [] (separator channel ∷ s) (tag_bytes most.tag name h) (let few = tag_few most.tag name h in omega arith) (omega arith) (omega arith)
    ∙ ap (λ w. run most (apply record { at = suc at + length name; out = out; mode = tag_of at [] 0 name } w) s) (tag_ends most (suc at + length name) at [] (omega arith) (omega arith) 0 name channel some)
    ∙ spelled_run most p (suc (suc at + length name)) out at (open_mark channel name ∷ []) 0 e o.1 (omega arith) (omega arith)
    ∙ landing_at (suc (suc at + length name) + length s) (at + suc (length (name ++ separator channel ∷ s))) out at (omega arith) {ms = open_mark channel name ∷ ms} {ns = open_mark channel name ∷ ms} refl e

abbrev pub block_at : ℕ → ℕ → Tree → Outer
block_at start stop b = record { start = start; stop = stop; block = b }

row_run : (most : Limits) (ms : List Mark) (s : List ℕ) (at : ℕ) (out : List Outer) → SpellsMarks most.tag ms s → Begins most.levels ms 0 → length s ≤ most.block → at + length s ≤ most.stream
    → run most record { at = at; out = out; mode = outside } s ≡ record { at = at + length s; out = out ++ block_at at (at + length s) (tree_from ms) ∷ []; mode = outside }
row_run most ms s at out p o short early = open_run most p at out 0 o (omega arith) early

pub block_run : (most : Limits) (b : Tree) (s : List ℕ) (at : ℕ) (out : List Outer) → IsOuter most at b s
    → run most record { at = at; out = out; mode = outside } s ≡ record { at = at + length s; out = out ++ block_at at (at + length s) b ∷ []; mode = outside }
block_run most b s at out h =
    row_run most (marks b) s at out (spelled_marks most b s h.spelled) (whole_marks most b s h.spelled) h.short h.early
    ∙ ap (λ t. record { at = at + length s; out = out ++ block_at at (at + length s) t ∷ []; mode = outside }) (tree_from_marks most.tag most.levels b h.spelled.within)

-- limits that are large enough for these bytes
abbrev wide : Limits → ℕ → Limits
wide most n = record { tag = most.tag; levels = most.levels; block = n; stream = n }

-- lengths don't matter to a spelling
pub same_spelling : (most other : Limits) (b : Tree) (s : List ℕ) → most.tag ≡ other.tag → most.levels ≡ other.levels → Spells most b s → Spells other b s
same_spelling most other b s e f p = record {
  within = subst (λ d. is_block_within other.tag d b ≡ true) f (subst (λ t. is_block_within t most.levels b ≡ true) e p.within);
  body = p.body;
  inside = p.inside;
  is = p.is;
}

abbrev starting : State
starting = record { at = 0; out = []; mode = outside }

alone : (most : Limits) (b : Tree) (s : List ℕ) → Spells most b s → (n : ℕ) → length s ≤ n
    → run (wide most n) starting s ≡ record { at = length s; out = block_at 0 (length s) b ∷ []; mode = outside }
alone most b s p n fits =
    block_run (wide most n) b s 0 [] record { spelled = same_spelling most (wide most n) b s refl refl p; short = fits; early = omega arith }
    ∙ ap (λ k. record { at = k; out = block_at 0 k b ∷ []; mode = outside }) (omega arith)

pub one_block : (most : Limits) (b c : Tree) (s : List ℕ) → Spells most b s → Spells most c s → b ≡ c
one_block most b c s p q =
    let e = sym (alone most b s p (length s) (omega arith)) ∙ alone most c s q (length s) (omega arith) in
    let f = ap (λ state. state.out) e in
    let same : block_at 0 (length s) b ≡ block_at 0 (length s) c = cc in
    ap (λ o. o.block) same

pub no_front : (most : Limits) (b c : Tree) (s t : List ℕ) → Spells most b s → Spells most c (s ++ t) → t ≡ []
no_front most b c s [] p q = refl
no_front most b c s (x ∷ t) p q =
    let whole = length-append s (x ∷ t) in
    let n = length (s ++ x ∷ t) in
    let e = sym (alone most c (s ++ x ∷ t) q n (omega arith)) ∙ run-append (wide most n) starting s (x ∷ t) ∙ ap (λ state. run (wide most n) state (x ∷ t)) (alone most b s p n (omega arith))
    ∙ run-following (wide most n) (block_at 0 (length s) b ∷ []) record { at = length s; out = []; mode = outside } (x ∷ t) in
    let f = ap (λ state. state.out) e in
    let same : block_at 0 (length (s ++ x ∷ t)) c ≡ block_at 0 (length s) b = cc in
    let g = ap (λ o. o.stop) same in
    absurd (omega arith)

row_alone : (most : Limits) (ms : List Mark) (s : List ℕ) → SpellsMarks most.tag ms s → Begins most.levels ms 0 → (n : ℕ) → length s ≤ n
    → run (wide most n) starting s ≡ record { at = length s; out = block_at 0 (length s) (tree_from ms) ∷ []; mode = outside }
row_alone most ms s p o n fits =
    row_run (wide most n) ms s 0 [] p o fits (omega arith)
    ∙ ap (λ k. record { at = k; out = block_at 0 k (tree_from ms) ∷ []; mode = outside }) (omega arith)

same_row : (most : Limits) (ms : List Mark) (b : Tree) (s : List ℕ) → SpellsMarks most.tag ms s → Begins most.levels ms 0 → Spells most b s → b ≡ tree_from ms
same_row most ms b s p o q =
    let e = sym (alone most b s q (length s) (omega arith)) ∙ row_alone most ms s p o (length s) (omega arith) in
    let f = ap (λ state. state.out) e in
    let same : block_at 0 (length s) b ≡ block_at 0 (length s) (tree_from ms) = cc in
    ap (λ o. o.block) same

-- the block that a row of marks is
pub row_spells : (most : Limits) (ms : List Mark) (s : List ℕ) → SpellsMarks most.tag ms s → Begins most.levels ms 0 → Spells most (tree_from ms) s
row_spells most ms s p o =
    let found = begun_ended most p 0 o in
    subst (λ t. Spells most t s) (same_row most ms found.0 s p o found.1) found.1

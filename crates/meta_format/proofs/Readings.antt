-- Bytes that are one block.
use Rattle.std.proofs.Common.{◌≡◌, ℕ, ◌≤◌, Bool, true, false, cond, ◌&&◌, nat_eq, List, [], ◌∷◌, ◌++◌, length, refl, sym, ap, ◌∙◌, subst, arith, append_assoc, append-nil, length-append, Option, Some, None}
use Rattle.std.proofs.lemmas.Bool.{and_parts, and_from, cond-true, eqb-true, eq-eqb}
use Rattle.block_tree.specs.Tree.{Tree}
use Rattle.meta_format.specs.Limits.{IsRoomy, limits}
use Rattle.meta_format.specs.Spelling.{Spells}
use Rattle.meta_format.specs.Stream.{Outer, Chain, none, next as chain_next, Stream}
use Rattle.meta_format.specs.Faults.{Kind}
use Rattle.meta_format.specs.inside.Machine.{outside, broken, State, start_state, run, IsAlive}
use Rattle.meta_format.specs.inside.Scan.{mode_of, scan_state, unbounded, last_after, last_outer, filling, FindsBlocks}
use Rattle.meta_format.specs.Found.{outer_of, outers}
use Rattle.meta_format.specs.declared.scan.Scanner.{Scanner}
use Rattle.meta_format.specs.declared.scan.Found.{Found}
use Rattle.meta_format.proofs.Unique.{block_at, block_run, same_spelling}
use Rattle.meta_format.proofs.Sound.{alive_read}
use Rattle.meta_format.proofs.Feeds.{mode_alive}
use Rattle.meta_format.proofs.Scans.{outers_push}

wide_enough : IsRoomy unbounded
wide_enough = record { levels = omega arith; block = omega arith }

-- the last of the blocks

last_pushed : (os : List Outer) (o : Outer) → last_outer (os ++ o ∷ []) ≡ Some o
last_pushed [] o = refl
last_pushed (p ∷ os) o = ap Some (following p os)
  where
    following : (p : Outer) (os : List Outer) → last_after p (os ++ o ∷ []) ≡ o
    following p [] = refl
    following p (q ∷ os) = following q os

pub last_found : (fs : List Found) (f : Found) → last_outer (outers (fs ++ f ∷ [])) ≡ Some (outer_of f)
last_found fs f = ap last_outer (outers_push fs f) ∙ last_pushed (outers fs) (outer_of f)

pub ruleset last_rules = (last_found)

-- a scan from the start

abbrev from_start : Scanner → List Found → State
from_start scanner before = scan_state scanner (outers before)

started : (old : Scanner) (before : List Found) → old.at ≡ 0 → mode_of old ≡ outside → before ≡ [] → from_start old before ≡ start_state
started old before e f g = ap (λ n. record { at = n; out = outers before; mode = mode_of old }) e ∙ ap (λ m. record { at = 0; out = outers before; mode = m }) f ∙ ap (λ fs. record { at = 0; out = outers fs; mode = outside }) g

pub scan_found : (old new : Scanner) (before found : List Found) (s : List ℕ) → old.at ≡ 0 → mode_of old ≡ outside → before ≡ [] → run unbounded (scan_state old (outers before)) s ≡ scan_state new (outers found)
    → FindsBlocks s (outers found)
scan_found old new before found s e f g h =
    let ran = ap (λ q. run unbounded q s) (sym (started old before e f g)) ∙ h in
    record { out = ap (λ q. q.out) ran; alive = subst (λ q. IsAlive q.mode) (sym ran) (mode_alive new.place new.start new.levels.items new.name.items) }

pub scan_broken : (old : Scanner) (before : List Found) (s : List ℕ) (at : ℕ) (out : List Outer) (kind : Kind) → old.at ≡ 0 → mode_of old ≡ outside → before ≡ []
    → run unbounded (scan_state old (outers before)) s ≡ record { at = at; out = out; mode = broken kind at } → IsAlive (run unbounded start_state s).mode → ⊥
scan_broken old before s at out kind e f g h alive = subst (λ q. IsAlive q.mode) (ap (λ q. run unbounded q s) (sym (started old before e f g)) ∙ h) alive

pub ruleset scan_rules = (scan_found, scan_broken)

-- one block that fills the bytes

pub whole_run : (b : Tree) (s : List ℕ) → length s ≤ unbounded.block → Spells limits b s → run unbounded start_state s ≡ record { at = length s; out = block_at 0 (length s) b ∷ []; mode = outside }
whole_run b s fits p =
    block_run unbounded b s 0 [] record { spelled = same_spelling limits unbounded b s refl refl p; short = fits; early = omega arith }
    ∙ ap (λ k. record { at = k; out = block_at 0 k b ∷ []; mode = outside }) (omega arith)

no_bytes : (xs : List ℕ) → length xs ≡ 0 → xs ≡ []
no_bytes [] h = refl
no_bytes (x ∷ xs) h = absurd (omega arith)

-- the last block of a chain, where it begins at 0 and ends with the bytes
chain_whole : (blocks : List Outer) (before more s : List ℕ) (o : Outer) → Chain unbounded blocks before → s ≡ before ++ more → last_outer blocks ≡ Some o → o.start ≡ 0 → o.stop ≡ length s → Spells unbounded o.block s
chain_whole _ _ more s o none e l h k = let no : None ≡ Some o = l in cc
chain_whole _ _ more s o (chain_next {blocks} {before} noise spelling b chain silent outer) e l h k =
    let same : Some (block_at (length (before ++ noise)) (length (before ++ noise ++ spelling)) b) ≡ Some o =
    sym (last_pushed blocks (block_at (length (before ++ noise)) (length (before ++ noise ++ spelling)) b)) ∙ l in
    let one : block_at (length (before ++ noise)) (length (before ++ noise ++ spelling)) b ≡ o = cc in
    let start : length (before ++ noise) ≡ 0 = ap (λ x. x.start) one ∙ h in
    let stop : length (before ++ noise ++ spelling) ≡ length s = ap (λ x. x.stop) one ∙ k in
    let front = no_bytes (before ++ noise) start in
    let size = ap length e in
    let longer = length-append (before ++ noise ++ spelling) more in
    let following = no_bytes more (omega arith) in
    let whole : s ≡ spelling = e ∙ ap (λ m. (before ++ noise ++ spelling) ++ m) following ∙ append-nil (before ++ noise ++ spelling) ∙ ap (λ f. f ++ spelling) front in
    subst (λ t. Spells unbounded t s) (ap (λ x. x.block) one) (subst (λ z. Spells unbounded b z) (sym whole) outer.spelled)

filled : (size : ℕ) (o : Outer) (b : Tree) → filling size (Some o) ≡ Some b → (o.start ≡ 0) × (o.stop ≡ size) × (o.block ≡ b)
filled size o b h = by_test (nat_eq o.start 0 && nat_eq o.stop size) refl h
  where
    by_test : (t : Bool) → (nat_eq o.start 0 && nat_eq o.stop size) ≡ t → cond t (Some o.block) None ≡ Some b → (o.start ≡ 0) × (o.stop ≡ size) × (o.block ≡ b)
    by_test true e g = let p = and_parts (nat_eq o.start 0) (nat_eq o.stop size) e in let one : o.block ≡ b = cc in (eqb-true o.start 0 p.0, eqb-true o.stop size p.1, one)
    by_test false e g = let no : None ≡ Some b = g in cc

pub read_right : (s : List ℕ) (found : List Found) (size : ℕ) (b : Tree) → size ≡ length s → FindsBlocks s (outers found) → Some b ≡ filling size (last_outer (outers found)) → Spells limits b s
read_right s found size b n h e = by_last (last_outer (outers found)) refl (sym e)
  where
    by_last : (l : Option Outer) → last_outer (outers found) ≡ l → filling size l ≡ Some b → Spells limits b s
    by_last None f g = let no : None ≡ Some b = g in cc
    by_last (Some o) f g =
        let is = filled size o b g in
        let r = alive_read unbounded wide_enough s h.alive in
        let st = subst (λ out. Stream unbounded s out r.tail) h.out r.stream in
        subst (λ t. Spells limits t s) is.2 (same_spelling unbounded limits o.block s refl refl
        (chain_whole (outers found) st.before (st.noise ++ r.tail) s o st.chain (st.is ∙ append_assoc st.before st.noise r.tail) f is.0 (is.1 ∙ n)))

pub read_none : (s : List ℕ) (found : List Found) (size : ℕ) → size ≡ length s → length s ≤ unbounded.block → FindsBlocks s (outers found) → None ≡ filling size (last_outer (outers found))
    → (b : Tree) → Spells limits b s → ⊥
read_none s found size n fits h e b p =
    let out : outers found ≡ block_at 0 (length s) b ∷ [] = sym h.out ∙ ap (λ q. q.out) (whole_run b s fits p) in
    let test : (nat_eq 0 0 && nat_eq (length s) size) ≡ true = and_from (nat_eq 0 0) (nat_eq (length s) size) refl (eq-eqb (length s) size (sym n)) in
    let no : None ≡ Some b = e ∙ ap (λ os. filling size (last_outer os)) out ∙ cond-true _ _ _ test in
    cc

pub read_broken : (s : List ℕ) → length s ≤ unbounded.block → (IsAlive (run unbounded start_state s).mode → ⊥) → (b : Tree) → Spells limits b s → ⊥
read_broken s fits h b p = h (subst (λ q. IsAlive q.mode) (sym (whole_run b s fits p)) tt)

pub ruleset read_rules = (read_right, read_none, read_broken)

-- Parts of a room, and the lines in them.
use Rattle.std.proofs.Common.{◌≡◌, ◌≢◌, ◌+◌, ◌-◌, ◌<◌, ◌≤◌, ℕ, Bool, true, false, nat_le, Some, List, length, length-drop, length-take-le, take, drop, slice_index, sym, ap, subst, ◌∙◌, arith, eq-eqb, eqb-true}
use Rattle.std.specs.Prelude.{slice_range}
use Rattle.std.proofs.lemmas.Bool.{cond-true, cond-false}
use Rattle.std.proofs.lemmas.Bool.Decides.{nat_tests}
use Rattle.std.proofs.lemmas.List.{drop-drop, drop-take, take-take}
use Rattle.memchr.specs.Find.{IsFirstByte, is_byte}
use Rattle.bstr.specs.Text.{without_terminator}
use Rattle.arrivals.specs.Lines.{whole, too_long, longest_line, bounded_line}
use Rattle.arrivals.specs.inside.Buffers.{first_line}
use Rattle.arrivals.proofs.Splitting.{over-leb}

pub range-len : (room : List ℕ) (start end : ℕ) → start ≤ end → end ≤ length room → length (slice_range room start end) ≡ end - start
range-len room start end ordered fits =
    let left = length-drop start room in
    length-take-le (end - start) (drop start room) (omega arith)

-- what comes after the first bytes
pub range-rest : (room : List ℕ) (start end len : ℕ) → start + len ≤ end → slice_range room (start + len) end ≡ drop len (slice_range room start end)
range-rest room start end len fits =
    let m = end - (start + len) in
    let n : end - start ≡ len + m = omega arith in
    ap (take m) (sym (drop-drop len start room)) ∙ sym (drop-take len m (drop start room)) ∙ ap (λ k. drop len (take k (drop start room))) (sym n)

-- the first bytes
pub range-front : (room : List ℕ) (start end len : ℕ) → start + len ≤ end → slice_range room start (start + len) ≡ take len (slice_range room start end)
range-front room start end len fits =
    let n : (start + len) - start ≡ len = omega arith in
    ap (λ k. take k (drop start room)) n ∙ sym (take-take len (end - start) (drop start room) (omega arith))

pub under-leb : (a b : ℕ) → a ≤ b → nat_le a b ≡ true
under-leb a b under = grind (arith, nat_tests)

pub reported-long : (d : Bool) (bytes raw : List ℕ) → d ≡ false → bytes ≡ raw → longest_line < length (without_terminator raw) → first_line d bytes ≡ too_long
unfolding bounded_line
reported-long d bytes raw e f long = ap (λ x. first_line x bytes) e ∙ ap bounded_line f ∙ cond-false _ _ _ (over-leb _ _ long)

pub reported-whole : (d : Bool) (bytes raw line : List ℕ) → d ≡ false → bytes ≡ raw → length (without_terminator raw) ≤ longest_line → line ≡ without_terminator raw → first_line d bytes ≡ whole line
unfolding bounded_line
reported-whole d bytes raw line e f fits own = ap (λ x. first_line x bytes) e ∙ ap bounded_line f ∙ cond-true _ _ _ (under-leb _ _ fits) ∙ ap whole (sym own)

-- the first line feed
pub record FirstFeed (bytes : List ℕ) (at : ℕ) : Type 0 where
  pub within : at < length bytes
  pub feed : slice_index bytes at ≡ 10
  pub before : (k : ℕ) → k < at → slice_index bytes k ≢ 10

pub first-feed : (hay bytes : List ℕ) (at : ℕ) → hay ≡ bytes → IsFirstByte (is_byte 10) hay (Some at) → FirstFeed bytes at
first-feed hay bytes at e found = subst (λ b. FirstFeed b at) e (record {
  within = found.0.high;
  feed = eqb-true _ _ found.1;
  before = λ k below is. found.0.before k (omega arith) below (eq-eqb _ _ is);
})

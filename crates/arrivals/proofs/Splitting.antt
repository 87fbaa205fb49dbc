-- How bytes that are read bit by bit break into lines.
use Rattle.std.proofs.Common.{◌≡◌, ◌≢◌, ◌+◌, ◌-◌, ◌<◌, ◌≤◌, ℕ, suc, Bool, true, false, ◌==◌, ◌&&◌, nat_lt, nat_le, List, [], ◌∷◌, ◌++◌, length, length-append, length-take-le, take, drop, map, slice_index, refl, sym, ap, subst, ◌∙◌, arith, ⊎_elim}
use Rattle.std.proofs.lemmas.Bool.{cases_Bool, cond-true, cond-false, ne_eqb}
use Rattle.std.proofs.lemmas.Bool.Decides.{nat_tests}
use Rattle.std.proofs.lemmas.List.{take-append-le, drop-append-le, drop-drop, drop_at, get_or_append_left}
use Rattle.bstr.specs.Text.{line_len, no_cr, without_terminator}
use Rattle.bstr.proofs.lemmas.LineLemmas.{line_len-at, line_len-bounds, lines-nil, lines-step}
use Rattle.arrivals.specs.Lines.{too_long, longest_line, bounded_line, input_lines, past_line}
use Rattle.arrivals.specs.Held.{IsUnended, lines_from}
use Rattle.arrivals.specs.inside.Buffers.{first_line}

-- the first line ends after bytes that have no line feed
pub line_len-on : (xs ys : List ℕ) → IsUnended xs → line_len (xs ++ ys) ≡ length xs + line_len ys
unfolding line_len
line_len-on [] ys none = omega arith
line_len-on (b ∷ rest) ys none =
    let other : b ≢ 10 = none 0 (omega arith) in
    let inner = line_len-on rest ys (λ k a. none (suc k) (omega arith)) in
    cond-false _ _ _ (ne_eqb b 10 other) ∙ ap suc inner ∙ omega arith

-- it ends at the first line feed, whatever follows
pub line_len-feed : (bytes more : List ℕ) (at : ℕ) → at < length bytes → slice_index bytes at ≡ 10 → ((k : ℕ) → k < at → slice_index bytes k ≢ 10) → line_len (bytes ++ more) ≡ at + 1
line_len-feed bytes more at l is before =
    line_len-at (bytes ++ more) at (omega (arith, length-append bytes more)) (get_or_append_left bytes more 0 at l ∙ is)
    (λ k below. subst (λ v. v ≢ 10) (sym (get_or_append_left bytes more 0 k (omega arith))) (before k below))

pub input-nil : input_lines [] ≡ []
unfolding input_lines
input-nil = ap (map bounded_line) lines-nil

pub input-step : (bytes : List ℕ) → 0 < length bytes → input_lines bytes ≡ bounded_line (take (line_len bytes) bytes) ∷ input_lines (past_line bytes)
unfolding input_lines
input-step bytes some = ap (map bounded_line) (lines-step bytes some)

-- the first line is all of these bytes' own
pub line_off : (d : Bool) (bytes more : List ℕ) (n : ℕ) → line_len (bytes ++ more) ≡ n → n ≤ length bytes → (d ≡ false → 0 < n)
    → lines_from d (bytes ++ more) ≡ first_line d (take n bytes) ∷ input_lines (drop n bytes ++ more)
line_off false bytes more n is fits some =
    let all = bytes ++ more in
    let pos : 0 < n = some refl in
    input-step all (omega (arith, length-append bytes more)) ∙ ap (λ k. bounded_line (take k all) ∷ input_lines (drop k all)) is
    ∙ ap (λ t. bounded_line t ∷ input_lines (drop n all)) (take-append-le n bytes more fits) ∙ ap (λ t. bounded_line (take n bytes) ∷ input_lines t) (drop-append-le n bytes more fits)
line_off true bytes more n is fits some =
    let all = bytes ++ more in
    ap (λ k. too_long ∷ input_lines (drop k all)) is ∙ ap (λ t. too_long ∷ input_lines t) (drop-append-le n bytes more fits)

no_cr-len : (bytes : List ℕ) → length bytes ≤ length (no_cr bytes) + 1
no_cr-len bytes =
    let test = nat_lt 0 (length bytes) && slice_index bytes (length bytes - 1) == 13 in
    let shorter = length-take-le (length bytes - 1) bytes (omega arith) in
    ⊎_elim
    (λ yes. subst (λ x. length bytes ≤ length x + 1) (sym (cond-true _ _ _ yes)) (omega arith))
    (λ no. subst (λ x. length bytes ≤ length x + 1) (sym (cond-false _ _ _ no)) (omega arith))
    (cases_Bool test)

-- at most two bytes end a line
without-len : (bytes : List ℕ) → length bytes ≤ length (without_terminator bytes) + 2
without-len bytes =
    let test = nat_lt 0 (length bytes) && slice_index bytes (length bytes - 1) == 10 in
    let shorter = length-take-le (length bytes - 1) bytes (omega arith) in
    let inner = no_cr-len (take (length bytes - 1) bytes) in
    ⊎_elim
    (λ yes. subst (λ x. length bytes ≤ length x + 2) (sym (cond-true _ _ _ yes)) (omega arith))
    (λ no. subst (λ x. length bytes ≤ length x + 2) (sym (cond-false _ _ _ no)) (omega arith))
    (cases_Bool test)

pub over-leb : (a b : ℕ) → b < a → nat_le a b ≡ false
over-leb a b over = grind (arith, nat_tests)

input-long : (bytes : List ℕ) → longest_line + 2 < length bytes → bounded_line bytes ≡ too_long
unfolding bounded_line
input-long bytes long =
    let few = without-len bytes in
    let over : longest_line < length (without_terminator bytes) = omega arith in
    cond-false _ _ _ (over-leb (length (without_terminator bytes)) longest_line over)

following-on : (bytes more : List ℕ) → IsUnended bytes → past_line (bytes ++ more) ≡ past_line more
following-on bytes more none =
    ap (λ n. drop n (bytes ++ more)) (line_len-on bytes more none) ∙ sym (drop-drop (line_len more) (length bytes) (bytes ++ more))
    ∙ ap (drop (line_len more)) (drop_at bytes more (length bytes) refl)

-- bytes of a line that is longer than any may be dropped
pub lines-dropped : (d : Bool) (bytes more : List ℕ) → IsUnended bytes → longest_line + 2 < length bytes → lines_from d (bytes ++ more) ≡ lines_from true more
lines-dropped false bytes more none long =
    let all = bytes ++ more in
    let n = line_len all in
    let size = length-append bytes more in
    let bounds = line_len-bounds all (omega arith) in
    let taken = length-take-le n all bounds.1 in
    let far = line_len-on bytes more none in
    input-step all (omega arith) ∙ ap (λ l. l ∷ input_lines (past_line all)) (input-long (take n all) (omega arith))
    ∙ ap (λ t. too_long ∷ input_lines t) (following-on bytes more none)
lines-dropped true bytes more none long = ap (λ t. too_long ∷ input_lines t) (following-on bytes more none)

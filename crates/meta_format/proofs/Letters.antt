-- Bytes of a text that are taken at once.
use Rattle.std.proofs.Common.{◌≡◌, ℕ, zero, suc, nat_eq, ◌+◌, ◌-◌, ◌<◌, ◌≤◌, All, false, List, [], ◌∷◌, ◌++◌, map, length, get_or, refl, sym, ap, ◌∙◌, arith, append_assoc, append-nil, add-zero, subst}
use Rattle.std.proofs.lemmas.Bool.{false_from_ne_true, lt-leb, cond-false}
use Rattle.block_tree.specs.inside.Marks.{Mark, letter}
use Rattle.block_tree.specs.Shape.{most_levels}
use Rattle.meta_format.specs.inside.Levels.{weight, stack_marks, IsHeld, AreOpen}
use Rattle.meta_format.specs.inside.Rows.{Leads, IsOpen}
use Rattle.meta_format.specs.inside.Scan.{mode_at, scan_state, IsPlacedAt, IsPlaced}
use Rattle.meta_format.specs.inside.Levels.{IsLevel}
use Rattle.meta_format.specs.declared.level.Level.{Level}
use Rattle.meta_format.specs.declared.scan.Place.{Place}
use Rattle.meta_format.specs.declared.scan.Place.TheVariants as place
use Rattle.meta_format.specs.declared.scan.Scanner.{Scanner}
use Rattle.meta_format.proofs.Held.{weight_of}
use Rattle.meta_format.proofs.Leading.{Begins-append, IsOpen-from_Begins, Begins-from_IsOpen}
use Rattle.memchr.specs.Find.{Nowhere, Passes, is_byte, is_byte3}
use Rattle.meta_format.specs.Limits.{Limits}
use Rattle.meta_format.specs.Spelling.{is_special}
use Rattle.meta_format.specs.Stream.{Outer}
use Rattle.meta_format.specs.inside.Machine.{outside, body_of, turns, apply, run}
use Rattle.meta_format.proofs.Spelled.{body_plain}

-- the search for a special byte passes over others
pub passed : (s : List ℕ) (r : ℕ) → Nowhere (Passes (is_byte3 2 5 27) s) 0 r → (k : ℕ) → k < r → is_special (get_or s k 0) ≡ false
passed s r h k less = false_from_ne_true _ (h k (omega arith) less)

-- the bytes spell themselves in a body
abbrev pub IsText : List ℕ → Type 0
IsText s = (k : ℕ) → k < length s → is_special (get_or s k 0) ≡ false

pub text_run : (most : Limits) (out : List Outer) (start d : ℕ) (s : List ℕ) (at : ℕ) (acc : List Mark) (t : List ℕ)
    → IsText s → at + length s < most.block + start → at + length s ≤ most.stream
    → run most record { at = at; out = out; mode = body_of start acc d } (s ++ t)
    ≡ run most record { at = at + length s; out = out; mode = body_of start (acc ++ map letter s) d } t
text_run most out start d [] at acc t plain short early =
    ap (λ n. run most record { at = n; out = out; mode = body_of start acc d } t) (sym (add-zero at))
    ∙ ap (λ n. run most record { at = at + 0; out = out; mode = body_of start n d } t) (sym (append-nil acc))
text_run most out start d (c ∷ s) at acc t plain short early =
    ap (λ w. run most (apply record { at = at; out = out; mode = body_of start acc d } w) (s ++ t)) (body_plain most at start acc (omega arith) (omega arith) d c (plain 0 (omega arith)))
    ∙ text_run most out start d s (suc at) (acc ++ letter c ∷ []) t (λ k h. plain (suc k) (omega arith)) (omega arith) (omega arith)
    ∙ ap (λ n. run most record { at = n; out = out; mode = body_of start ((acc ++ letter c ∷ []) ++ map letter s) d } t) (omega arith)
    ∙ ap (λ n. run most record { at = at + suc (length s); out = out; mode = body_of start n d } t) (append_assoc acc (letter c ∷ []) (map letter s))

-- the scanner after the text is where the machine is
pub took_text : (most : Limits) (old new : Scanner) (t : List ℕ) → IsText t → old.place ≡ place.Body → new.place ≡ old.place → new.start ≡ old.start → new.at ≡ old.at + length t
    → stack_marks new.levels.items ≡ stack_marks old.levels.items ++ map letter t → length new.levels.items ≡ length old.levels.items
    → old.at + length t < most.block + old.start → old.at + length t ≤ most.stream
    → (out : List Outer) (rest : List ℕ) → run most (scan_state old out) (t ++ rest) ≡ run most (scan_state new out) rest
took_text most old new t plain there stays start at marks count short early out rest =
    ap (λ p. run most record { at = old.at; out = out; mode = mode_at p old.start old.levels.items old.name.items } (t ++ rest)) there
    ∙ text_run most out old.start (length old.levels.items - 1) t old.at (stack_marks old.levels.items) rest plain short early
    ∙ ap (λ n. run most record { at = n; out = out; mode = body_of old.start (stack_marks old.levels.items ++ map letter t) (length old.levels.items - 1) } rest) (sym at)
    ∙ ap (λ n. run most record { at = new.at; out = out; mode = body_of n (stack_marks old.levels.items ++ map letter t) (length old.levels.items - 1) } rest) (sym start)
    ∙ ap (λ n. run most record { at = new.at; out = out; mode = body_of new.start n (length old.levels.items - 1) } rest) (sym marks)
    ∙ ap (λ n. run most record { at = new.at; out = out; mode = body_of new.start (stack_marks new.levels.items) (n - 1) } rest) (sym count)
    ∙ ap (λ p. run most record { at = new.at; out = out; mode = mode_at p new.start new.levels.items new.name.items } rest) (sym (stays ∙ there))

letters_lead : (most d : ℕ) (t : List ℕ) → Leads most (suc d) (map letter t) (suc d)
letters_lead most d [] = refl
letters_lead most d (c ∷ t) = letters_lead most d t

weight_letters : (t : List ℕ) → weight (map letter t) ≡ length t
weight_letters [] = refl
weight_letters (c ∷ t) = let rest = weight_letters t in omega arith

open_letters : (most d : ℕ) (t : List ℕ) (ms ns : List Mark) → ns ≡ ms ++ map letter t → 0 < d → AreOpen most ms d → AreOpen most ns d
open_letters most zero t ms ns e h o = absurd (omega arith)
open_letters most (suc d) t ms ns e h o = record {
  open_marks = subst (λ xs. IsOpen most xs (suc d)) (sym e) (IsOpen-from_Begins most d (ms ++ map letter t) (Begins-append most (suc d) (suc d) ms (map letter t) (Begins-from_IsOpen most d ms o.open_marks) (letters_lead most d t)));
  few = o.few;
}

held_letters : (block start at : ℕ) (t : List ℕ) (ms ns : List Mark) → ns ≡ ms ++ map letter t → at + length t < block + start → IsHeld block start at ms 0 → IsHeld block start (at + length t) ns 0
held_letters block start at t ms ns e free h =
    let w = weight_of ms ns (map letter t) e in
    let v = weight_letters t in
    let bytes = h.bytes in
    record { bytes = omega arith; short = omega arith }

body_of_placed : (block : ℕ) (p : Place) (at start : ℕ) (levels : List Level) (name : List ℕ) → p ≡ place.Body → IsPlacedAt block p at start levels name
    → IsPlacedAt block place.Body at start levels name
body_of_placed block p at start levels name e h = subst (λ q. IsPlacedAt block q at start levels name) e h

pub placed_text : (block : ℕ) (old new : Scanner) (t : List ℕ) → IsPlaced block old → old.place ≡ place.Body → new.place ≡ old.place → new.start ≡ old.start → new.at ≡ old.at + length t
    → new.name.items ≡ old.name.items → stack_marks new.levels.items ≡ stack_marks old.levels.items ++ map letter t → length new.levels.items ≡ length old.levels.items
    → All IsLevel new.levels.items → old.at + length t < block + old.start → IsPlaced block new
placed_text block old new t h there stays start at name marks count right free =
    let (begun, some, none, held) = body_of_placed block old.place old.at old.start old.levels.items old.name.items there h.place in
    let held2 : IsHeld block new.start new.at (stack_marks new.levels.items) 0 =
    subst (λ n. IsHeld block n new.at (stack_marks new.levels.items) 0) (sym start)
    (subst (λ n. IsHeld block old.start n (stack_marks new.levels.items) 0) (sym at) (held_letters block old.start old.at t _ _ marks free held)) in
    let opened : AreOpen most_levels (stack_marks new.levels.items) (length old.levels.items) = open_letters most_levels (length old.levels.items) t _ _ marks some h.levels.opened in
    record {
      place = subst (λ q. IsPlacedAt block q new.at new.start new.levels.items new.name.items) (sym (stays ∙ there)) (omega arith, omega arith, name ∙ none, held2);
      levels = record { right = right; opened = subst (AreOpen most_levels (stack_marks new.levels.items)) (sym count) opened };
    }

pub passed_noise : (s : List ℕ) (r : ℕ) → Nowhere (Passes (is_byte 2) s) 0 r → (k : ℕ) → k < r → nat_eq (get_or s k 0) 2 ≡ false
passed_noise s r h k less = false_from_ne_true _ (h k (omega arith) less)

pub noise_run : (most : Limits) (out : List Outer) (s : List ℕ) (at : ℕ) (t : List ℕ) → ((k : ℕ) → k < length s → nat_eq (get_or s k 0) 2 ≡ false) → at + length s ≤ most.stream
    → run most record { at = at; out = out; mode = outside } (s ++ t) ≡ run most record { at = at + length s; out = out; mode = outside } t
noise_run most out [] at t silent early = ap (λ n. run most record { at = n; out = out; mode = outside } t) (sym (add-zero at))
noise_run most out (c ∷ s) at t silent early =
    let free : at < most.stream = omega arith in
    ap (λ w. run most (apply record { at = at; out = out; mode = outside } w) (s ++ t)) (cond-false _ _ _ (lt-leb most.stream at free) ∙ ap turns (cond-false _ _ _ (silent 0 (omega arith))))
    ∙ noise_run most out s (suc at) t (λ k h. silent (suc k) (omega arith)) (omega arith)
    ∙ ap (λ n. run most record { at = n; out = out; mode = outside } t) (omega arith)

-- the scanner after so many bytes more
abbrev pub later : Scanner → ℕ → Scanner
later s n = record { at = n; start = s.start; place = s.place; name = s.name; levels = s.levels }

pub took_noise : (most : Limits) (old : Scanner) (s : List ℕ) → ((k : ℕ) → k < length s → nat_eq (get_or s k 0) 2 ≡ false) → old.place ≡ place.Outside → old.at + length s ≤ most.stream
    → (out : List Outer) (rest : List ℕ) → run most (scan_state old out) (s ++ rest) ≡ run most (scan_state (later old (old.at + length s)) out) rest
took_noise most old s silent there early out rest =
    ap (λ p. run most record { at = old.at; out = out; mode = mode_at p old.start old.levels.items old.name.items } (s ++ rest)) there
    ∙ noise_run most out s old.at rest silent early
    ∙ ap (λ p. run most record { at = old.at + length s; out = out; mode = mode_at p old.start old.levels.items old.name.items } rest) (sym there)

pub placed_noise : (block : ℕ) (old : Scanner) (n : ℕ) → IsPlaced block old → old.place ≡ place.Outside → IsPlaced block (later old n)
placed_noise block old n h there =
    let here : IsPlacedAt block place.Outside old.at old.start old.levels.items old.name.items = subst (λ q. IsPlacedAt block q old.at old.start old.levels.items old.name.items) there h.place in
    record {
      place = subst (λ q. IsPlacedAt block q n old.start old.levels.items old.name.items) (sym there) (here.0, here.1);
      levels = h.levels;
    }

-- What a read leaves of the lines that are still to come.
use Rattle.std.proofs.Common.{◌≡◌, ◌+◌, ◌≤◌, ℕ, Bool, true, false, ◌==◌, List, [], ◌++◌, Option, Some, None, length, length-drop, length-take-le, take, drop, refl, sym, ap, ◌∙◌, arith, append_assoc, take-append-drop, eq-eqb}
use Rattle.std.proofs.lemmas.List.{drop-take, take-take}
use Rattle.std.specs.Io.KnownBytes.{Consumes, IsAtEnd, Keeps}
use Rattle.std.specs.Prelude.{option_map}
use Rattle.arrivals.specs.Lines.{input_lines}
use Rattle.arrivals.specs.Held.{Held, KeepsLines, Same, if_read, nothing_held, left_with, lines_from, to_come}

-- a read that failed
pub kept-lines : (h k : Held) (old new : Option (List ℕ)) → Same h k → Keeps old new → KeepsLines (to_come h old) (to_come k new)
unfolding left_with
kept-lines h k None new s e = tt
kept-lines h k (Some xs) None s e = absurd e
kept-lines h k (Some xs) (Some ys) s e =
    ap Some (ap (λ b. lines_from k.dropping (b ++ if_read k.ended ys)) s.0 ∙ ap (λ d. lines_from d (h.bytes ++ if_read k.ended ys)) s.1
    ∙ ap (λ x. lines_from h.dropping (h.bytes ++ if_read x ys)) s.2 ∙ ap (λ more. lines_from h.dropping (h.bytes ++ if_read h.ended more)) e)

-- none
pub same-lines : (h k : Held) (known : Option (List ℕ)) → Same h k → KeepsLines (to_come h known) (to_come k known)
same-lines h k None s = tt
same-lines h k (Some xs) s = kept-lines h k (Some xs) (Some xs) s refl

at-end : (ended : Bool) (more : List ℕ) → (ended ≡ true → more ≡ []) → if_read ended more ≡ more
at-end true more e = sym (e refl)
at-end false more e = refl

-- one that gave these bytes
pub read-lines : (h k : Held) (old new : Option (List ℕ)) (bytes : List ℕ) → k.bytes ≡ h.bytes ++ bytes → k.dropping ≡ h.dropping → h.ended ≡ false
    → Consumes old new bytes → (k.ended ≡ true → IsAtEnd new) → KeepsLines (to_come h old) (to_come k new)
unfolding left_with
read-lines h k None new bytes added dropping before took end = tt
read-lines h k (Some xs) None bytes added dropping before took end = absurd took
read-lines h k (Some xs) (Some ys) bytes added dropping before took end =
    ap Some (ap (λ more. lines_from k.dropping (k.bytes ++ more)) (at-end k.ended ys end) ∙ ap (λ d. lines_from d (k.bytes ++ ys)) dropping
    ∙ ap (λ b. lines_from h.dropping (b ++ ys)) added ∙ ap (lines_from h.dropping) (append_assoc h.bytes bytes ys)
    ∙ ap (λ more. lines_from h.dropping (h.bytes ++ more)) (sym took) ∙ ap (λ x. lines_from h.dropping (h.bytes ++ if_read x xs)) (sym before))

-- bytes of a room after others
pub take-both : (room : List ℕ) (at len : ℕ) → take (at + len) room ≡ take at room ++ take len (drop at room)
take-both room at len =
    sym (take-append-drop at (take (at + len) room)) ∙ ap (λ l. l ++ drop at (take (at + len) room)) (take-take at (at + len) room (omega arith))
    ∙ ap (λ l. take at room ++ l) (drop-take at len room)

-- no bytes of a part that is there
pub none-taken : (room : List ℕ) (at len : ℕ) → at + len ≤ length room → take len (drop at room) ≡ [] → (len == 0) ≡ true
none-taken room at len fits none =
    let left = length-drop at room in
    let size = length-take-le len (drop at room) (omega arith) in
    let zero : length (take len (drop at room)) ≡ 0 = ap length none in
    eq-eqb len 0 (omega arith)

-- before the first read
pub first-lines : (h : Held) (known : Option (List ℕ)) → h ≡ nothing_held → to_come h known ≡ option_map input_lines known
unfolding left_with
first-lines h None e = refl
first-lines h (Some xs) e = ap (λ x. Some (left_with x xs)) e

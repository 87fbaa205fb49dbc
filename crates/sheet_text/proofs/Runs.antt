-- Bytes that are written in runs: those after start stand for themselves and are still to be written.
use Rattle.std.proofs.KnownBytes.{Appends-trans}
use Rattle.std.proofs.Common.{◌≡◌, ◌≤◌, ◌<◌, ◌+◌, ◌-◌, ℕ, zero, suc, add-zero, Bool, cond, List, [], ◌∷◌, ◌++◌, Option, length, take, drop, get_or, flat_map, ap, sym, ◌∙◌, subst, append_assoc, append-nil, arith}
use Rattle.std.proofs.lemmas.List.{take_more, take_all, drop-append-le, drop-take, drop_all, length-take, length-take-le}
use Rattle.std.proofs.lemmas.Grind.{flat_map-append}
use Rattle.std.specs.Io.KnownBytes.{Appends}
use Rattle.sheet_text.specs.Escape.{is_plain, printed_byte, escaped_byte}
use Rattle.sheet_text.specs.inside.PlainRuns.{AllPassBetween}

-- what is written and the run are the text of the first i bytes
abbrev pub Follows : (ℕ → List ℕ) → List ℕ → ℕ → ℕ → List ℕ → Type 0
Follows f bytes start i written = written ++ drop start (take i bytes) ≡ flat_map f (take i bytes)

more : (f : ℕ → List ℕ) (bytes : List ℕ) (i : ℕ) → i < length bytes → flat_map f (take (i + 1) bytes) ≡ flat_map f (take i bytes) ++ f (get_or bytes i 0)
more f bytes i h = ap (flat_map f) (take_more bytes i 0 h) ∙ flat_map-append f (take i bytes) (get_or bytes i 0 ∷ []) ∙ ap (λ t. flat_map f (take i bytes) ++ t) (append-nil (f (get_or bytes i 0)))

pub plain_step : (f : ℕ → List ℕ) (bytes written : List ℕ) (start i : ℕ) → i < length bytes → start ≤ i → f (get_or bytes i 0) ≡ get_or bytes i 0 ∷ []
    → Follows f bytes start i written → Follows f bytes start (i + 1) written
plain_step f bytes written start i h le plain so =
    let size = length-take-le i bytes (omega (arith, h)) in
    ap (λ t. written ++ drop start t) (take_more bytes i 0 h)
    ∙ ap (λ t. written ++ t) (drop-append-le start (take i bytes) (get_or bytes i 0 ∷ []) (omega (arith, size, le)))
    ∙ sym (append_assoc written (drop start (take i bytes)) (get_or bytes i 0 ∷ []))
    ∙ ap (λ t. t ++ get_or bytes i 0 ∷ []) so
    ∙ ap (λ t. flat_map f (take i bytes) ++ t) (sym plain)
    ∙ sym (more f bytes i h)

pub escaped_step : (f : ℕ → List ℕ) (bytes written : List ℕ) (start i : ℕ) (a b c d : Option (List ℕ)) → i < length bytes → start ≤ i
    → Appends a b written → Appends b c (take (i - start) (drop start bytes)) → Appends c d (f (get_or bytes i 0))
    → Follows f bytes start i written → Appends a d (flat_map f (take (i + 1) bytes)) × Follows f bytes (i + 1) (i + 1) (flat_map f (take (i + 1) bytes))
escaped_step f bytes written start i a b c d h le p q r so =
    let run : take (i - start) (drop start bytes) ≡ drop start (take i bytes) =
    sym (drop-take start (i - start) bytes) ∙ ap (λ n. drop start (take n bytes)) (omega (arith, le)) in
    let first : Appends a c (flat_map f (take i bytes)) = subst (Appends a c) (ap (λ t. written ++ t) run ∙ so) (Appends-trans a b c written _ p q) in
    let size = length-take (i + 1) bytes in (
      subst (Appends a d) (sym (more f bytes i h)) (Appends-trans a c d (flat_map f (take i bytes)) (f (get_or bytes i 0)) first r),
      ap (λ t. flat_map f (take (i + 1) bytes) ++ t) (drop_all (i + 1) (take (i + 1) bytes) (omega (arith, size))) ∙ append-nil (flat_map f (take (i + 1) bytes)),
    )

plain_steps : (f : ℕ → List ℕ) (bytes written : List ℕ) (start n : ℕ) → start + n ≤ length bytes
    → ((k : ℕ) → start ≤ k → k < start + n → f (get_or bytes k 0) ≡ get_or bytes k 0 ∷ []) → Follows f bytes start start written → Follows f bytes start (start + n) written
plain_steps f bytes written start zero h plain so = subst (λ i. Follows f bytes start i written) (sym (add-zero start)) so
plain_steps f bytes written start (suc n) h plain so =
    let before = plain_steps f bytes written start n (omega arith) (λ k low high. plain k low (omega arith)) so in
    let step = plain_step f bytes written start (start + n) (omega arith) (omega arith) (plain (start + n) (omega arith) (omega arith)) before in
    let next : start + n + 1 ≡ start + suc n = omega arith in
    subst (λ i. Follows f bytes start i written) next step

-- nothing is in the run yet
begins : (f : ℕ → List ℕ) (bytes : List ℕ) (start : ℕ) → Follows f bytes start start (flat_map f (take start bytes))
begins f bytes start =
    let size = length-take start bytes in
    ap (λ t. flat_map f (take start bytes) ++ t) (drop_all start (take start bytes) (omega (arith, size))) ∙ append-nil (flat_map f (take start bytes))

run_follows : (f : ℕ → List ℕ) (bytes : List ℕ) (start end : ℕ) → start ≤ end → end ≤ length bytes → ((k : ℕ) → start ≤ k → k < end → f (get_or bytes k 0) ≡ get_or bytes k 0 ∷ [])
    → Follows f bytes start end (flat_map f (take start bytes))
run_follows f bytes start end low high plain =
    let sum : start + (end - start) ≡ end = omega arith in
    subst (λ i. Follows f bytes start i (flat_map f (take start bytes))) sum
    (plain_steps f bytes (flat_map f (take start bytes)) start (end - start) (omega arith) (λ k from to. plain k from (omega arith)) (begins f bytes start))

-- a run and the byte that stops it
pub run_step : (f : ℕ → List ℕ) (bytes : List ℕ) (start end : ℕ) (a b c d : Option (List ℕ)) → start ≤ end → end < length bytes
    → ((k : ℕ) → start ≤ k → k < end → f (get_or bytes k 0) ≡ get_or bytes k 0 ∷ [])
    → Appends a b (flat_map f (take start bytes)) → Appends b c (take (end - start) (drop start bytes)) → Appends c d (f (get_or bytes end 0))
    → Appends a d (flat_map f (take (end + 1) bytes))
run_step f bytes start end a b c d low high plain p q r =
    (escaped_step f bytes (flat_map f (take start bytes)) start end a b c d high low p q r (run_follows f bytes start end low (omega arith) plain)).0

-- the last run
pub run_last : (f : ℕ → List ℕ) (bytes : List ℕ) (start end : ℕ) (a b c : Option (List ℕ)) → start ≤ end → end ≡ length bytes
    → ((k : ℕ) → start ≤ k → k < end → f (get_or bytes k 0) ≡ get_or bytes k 0 ∷ [])
    → Appends a b (flat_map f (take start bytes)) → Appends b c (take (end - start) (drop start bytes)) → Appends a c (flat_map f bytes)
run_last f bytes start end a b c low last plain p q =
    let run : take (end - start) (drop start bytes) ≡ drop start (take end bytes) =
    sym (drop-take start (end - start) bytes) ∙ ap (λ n. drop start (take n bytes)) (omega (arith, low)) in
    let so = run_follows f bytes start end low (omega arith) plain in
    subst (Appends a c) (ap (λ t. flat_map f (take start bytes) ++ t) run ∙ so ∙ ap (flat_map f) (take_all end bytes (omega arith))) (Appends-trans a b c _ _ p q)

pub plain_byte : (keeps_lines : Bool) (bytes : List ℕ) (start end : ℕ) → AllPassBetween (is_plain keeps_lines) bytes start end
    → (k : ℕ) → start ≤ k → k < end → printed_byte keeps_lines (get_or bytes k 0) ≡ get_or bytes k 0 ∷ []
plain_byte keeps_lines bytes start end all k low high = ap (λ b. cond b (get_or bytes k 0 ∷ []) (escaped_byte (get_or bytes k 0))) (all k low high)

-- The machine over a stream that is held whole, by offsets alone.
use Rattle.std.proofs.Common.{◌≡◌, ℕ, suc, ◌+◌, ◌-◌, ◌<◌, ◌≤◌, Bool, true, false, List, [], ◌∷◌, ◌++◌, length, map, take, drop, get_or, refl, sym, ap, ◌∙◌, arith, append_assoc, append-nil, subst}
use Rattle.std.proofs.lemmas.Bool.{cond-true, cond-false, lt-leb, le-leb}
use Rattle.std.proofs.lemmas.List.{length-drop, get_or-drop, at_drop_more, take-append-drop, drop-drop, get_or-take, length-take-le}
use Rattle.block_tree.specs.inside.Marks.{letter, open_mark, close_mark, tree_from}
use Rattle.meta_format.specs.Limits.{Limits}
use Rattle.meta_format.specs.Spelling.{is_special, separator}
use Rattle.meta_format.specs.Faults.{Kind, bad_tag, too_deep}
use Rattle.meta_format.specs.inside.Machine.{Mode, State, outside, tag_of, body_of, halts, turns, after, apply, run, is_bad_tag}
use Rattle.meta_format.specs.inside.Flat.{outside_at, Takes, closed_at, ComesTo, Breaks, AtTag, InBody, InEscape, NameUpTo, TagUpTo}
use Rattle.meta_format.proofs.Spelled.{run-append, body_plain, body_escape, escape_special, escape_other, body_opens, body_closes, tag_ends, tag_run}
use Rattle.meta_format.proofs.Unique.{run_broken}
use Rattle.meta_format.proofs.Letters.{IsText, text_run}

-- more bytes
pub further : (most : Limits) (s : List ℕ) (from at : ℕ) (q : State) → Takes most s from at q → (end : ℕ) (then : State) (p : List ℕ) → drop at s ≡ p ++ drop end s → run most q p ≡ then
    → Takes most s from end then
further most s from at q so end then p split ran = record {
  piece = so.piece ++ p;
  split = so.split ∙ ap (λ r. so.piece ++ r) split ∙ sym (append_assoc so.piece p (drop end s));
  ran = run-append most (outside_at from) so.piece p ∙ ap (λ r. run most r p) so.ran ∙ ran;
}

-- all bytes
pub over_all : (most : Limits) (s : List ℕ) (from at : ℕ) (q : State) → Takes most s from at q → run most (outside_at from) (drop from s) ≡ run most q (drop at s)
over_all most s from at q so = ap (run most (outside_at from)) so.split ∙ run-append most (outside_at from) so.piece (drop at s) ∙ ap (λ r. run most r (drop at s)) so.ran

pub byte_there : (s : List ℕ) (at c : ℕ) → at < length s → get_or s at 0 ≡ c → drop at s ≡ c ∷ drop (at + 1) s
byte_there s at c some byte = at_drop_more (λ r. r) s at 0 some ∙ ap (λ b. b ∷ drop (at + 1) s) byte

-- one byte
turn : (most : Limits) (s : List ℕ) (start at : ℕ) (mode then : Mode) (c : ℕ) → at < length s → get_or s at 0 ≡ c → ComesTo most s start at mode → after most at mode c ≡ turns then
    → ComesTo most s start (at + 1) then
turn most s start at mode then c some byte so does =
    further most s start at record { at = at; out = []; mode = mode } so (at + 1) record { at = at + 1; out = []; mode = then } (c ∷ []) (byte_there s at c some byte)
    (ap (apply record { at = at; out = []; mode = mode }) does ∙ ap (λ n. record { at = n; out = []; mode = then }) (omega arith))

-- the 2 of a block, and those inside
pub body_two : (most : Limits) (s : List ℕ) (start at d : ℕ) → at < length s → get_or s at 0 ≡ 2 → suc at < most.block + start → at < most.stream → suc d < most.levels
    → InBody most s start at d → AtTag most s start (at + 1) (suc d)
body_two most s start at d some byte short early few so =
    (so.0, turn most s start at _ _ 2 some byte so.1 (body_opens most at start so.0 short early d few))

-- the 5 of a block inside
pub body_five : (most : Limits) (s : List ℕ) (start at d : ℕ) → at < length s → get_or s at 0 ≡ 5 → suc at < most.block + start → at < most.stream
    → InBody most s start at (suc d) → InBody most s start (at + 1) d
body_five most s start at d some byte short early so =
    (so.0 ++ close_mark ∷ [], turn most s start at _ _ 5 some byte so.1 (body_closes most at start so.0 short early d))

pub body_27 : (most : Limits) (s : List ℕ) (start at d : ℕ) → at < length s → get_or s at 0 ≡ 27 → suc at < most.block + start → at < most.stream
    → InBody most s start at d → InEscape most s start (at + 1) d
body_27 most s start at d some byte short early so =
    (so.0, turn most s start at _ _ 27 some byte so.1 (body_escape most at start so.0 short early d))

pub escape_any : (most : Limits) (s : List ℕ) (start at d : ℕ) → at < length s → suc at < most.block + start → at < most.stream
    → InEscape most s start at d → InBody most s start (at + 1) d
escape_any most s start at d some short early so = by_byte (is_special (get_or s at 0)) refl
  where
    by_byte : (b : Bool) → is_special (get_or s at 0) ≡ b → InBody most s start (at + 1) d
    by_byte true e = (so.0 ++ letter (get_or s at 0) ∷ [], turn most s start at _ _ (get_or s at 0) some refl so.1 (escape_special most at start so.0 short early d (get_or s at 0) e))
    by_byte false e = (so.0 ++ letter 27 ∷ letter (get_or s at 0) ∷ [], turn most s start at _ _ (get_or s at 0) some refl so.1 (escape_other most at start so.0 short early d (get_or s at 0) e))

-- bytes of a text
pub body_text : (most : Limits) (s : List ℕ) (start at d : ℕ) (t rest : List ℕ) → drop at s ≡ t ++ rest → rest ≡ drop (at + length t) s → IsText t → at + length t < most.block + start → at + length t ≤ most.stream
    → InBody most s start at d → InBody most s start (at + length t) d
body_text most s start at d t rest split following plain short early so = (
  so.0 ++ map letter t,
  further most s start at record { at = at; out = []; mode = body_of start so.0 d } so.1 (at + length t) record { at = at + length t; out = []; mode = body_of start (so.0 ++ map letter t) d } t
      (split ∙ ap (λ r. t ++ r) following)
      (ap (run most record { at = at; out = []; mode = body_of start so.0 d }) (sym (append-nil t)) ∙ text_run most [] start d t at so.0 [] plain short early),
)

-- a tag
pub tag_whole : (most : Limits) (s : List ℕ) (start at levels end : ℕ) → TagUpTo most.tag s at end → end < most.block + start → end ≤ most.stream
    → AtTag most s start at levels → InBody most s start end levels
tag_whole most s start at levels end (name, channel, each, some, few, split, size) short early so = (
  so.0 ++ open_mark channel name ∷ [],
  further most s start at record { at = at; out = []; mode = tag_of start so.0 levels [] } so.1 end record { at = end; out = []; mode = body_of start (so.0 ++ open_mark channel name ∷ []) levels } (name ++ separator channel ∷ [])
      (split ∙ sym (append_assoc name (separator channel ∷ []) (drop end s)))
      (tag_run most [] start so.0 levels name at [] (separator channel ∷ []) each (omega (arith, few)) (omega (arith, size)) (omega (arith, size))
      ∙ ap (apply record { at = at + length name; out = []; mode = tag_of start so.0 levels name }) (tag_ends most (at + length name) start so.0 (omega (arith, size)) (omega (arith, size)) levels name channel some)
      ∙ ap (λ n. record { at = n; out = []; mode = body_of start (so.0 ++ open_mark channel name ∷ []) levels }) (omega (arith, size))),
)

-- a part of a tag's name
pub in_name : (most : Limits) (s : List ℕ) (start at levels i : ℕ) → (named : NameUpTo most.tag s at i) → i < most.block + start → i ≤ most.stream → (so : AtTag most s start at levels)
    → ComesTo most s start i (tag_of start so.0 levels named.0)
in_name most s start at levels i (name, each, few, split, size) short early so =
    further most s start at record { at = at; out = []; mode = tag_of start so.0 levels [] } so.1 i record { at = i; out = []; mode = tag_of start so.0 levels name } name split
    (ap (run most record { at = at; out = []; mode = tag_of start so.0 levels [] }) (sym (append-nil name))
    ∙ tag_run most [] start so.0 levels name at [] [] each (omega (arith, few)) (omega (arith, size, short)) (omega (arith, size, early))
    ∙ ap (λ n. record { at = n; out = []; mode = tag_of start so.0 levels name }) size)

-- a fault
pub halt : (most : Limits) (s : List ℕ) (start at : ℕ) (mode : Mode) (kind : Kind) → at < length s → ComesTo most s start at mode → after most at mode (get_or s at 0) ≡ halts kind
    → Breaks most s start at kind
halt most s start at mode kind some so does =
    over_all most s start at record { at = at; out = []; mode = mode } so
    ∙ ap (run most record { at = at; out = []; mode = mode }) (byte_there s at (get_or s at 0) some refl)
    ∙ ap (λ w. run most (apply record { at = at; out = []; mode = mode } w) (drop (at + 1) s)) does
    ∙ run_broken most at at [] kind (drop (at + 1) s)

-- the 5 that closes the outer block, also where it is the last byte that a block may have
pub whole : (most : Limits) (s : List ℕ) (start at : ℕ) → at < length s → get_or s at 0 ≡ 5 → at < most.stream → (so : InBody most s start at 0)
    → Takes most s start (at + 1) (closed_at start (at + 1) (tree_from (so.0 ++ close_mark ∷ [])))
whole most s start at some byte early so =
    further most s start at record { at = at; out = []; mode = body_of start so.0 0 } so.1 (at + 1) (closed_at start (at + 1) (tree_from (so.0 ++ close_mark ∷ []))) (5 ∷ []) (byte_there s at 5 some byte)
    (ap (apply record { at = at; out = []; mode = body_of start so.0 0 }) (cond-false _ _ _ (lt-leb most.stream at early))
    ∙ ap (λ n. closed_at start n (tree_from (so.0 ++ close_mark ∷ []))) (omega arith))

-- a level too many
pub deep : (most : Limits) (s : List ℕ) (start at d : ℕ) → at < length s → get_or s at 0 ≡ 2 → most.levels ≤ suc d → InBody most s start at d
    → Breaks most s start at too_deep
deep most s start at d some byte many so =
    halt most s start at (body_of start so.0 d) too_deep some so.1 (ap (after most at (body_of start so.0 d)) byte ∙ cond-true _ _ _ (le-leb most.levels (suc d) many))

pub none_taken : (most : Limits) (s : List ℕ) (at : ℕ) → ComesTo most s at at outside
none_taken most s at = record { piece = []; split = refl; ran = refl }

-- the 2 that begins a block
pub begin_two : (most : Limits) (s : List ℕ) (start : ℕ) → start < length s → get_or s start 0 ≡ 2 → start < most.stream → AtTag most s start (start + 1) 0
begin_two most s start some byte early =
    ([], turn most s start start outside (tag_of start [] 0 []) 2 some byte (none_taken most s start) (cond-false _ _ _ (lt-leb most.stream start early)))

-- one byte of a text
pub body_letter : (most : Limits) (s : List ℕ) (start at d c : ℕ) → at < length s → get_or s at 0 ≡ c → is_special c ≡ false → suc at < most.block + start → at < most.stream
    → InBody most s start at d → InBody most s start (at + 1) d
body_letter most s start at d c some byte plain short early so =
    (so.0 ++ letter c ∷ [], turn most s start at _ _ c some byte so.1 (body_plain most at start so.0 short early d c plain))

-- bytes of a text, by their offsets
pub body_run : (most : Limits) (s : List ℕ) (start at end d : ℕ) → at ≤ end → end ≤ length s → ((k : ℕ) → at ≤ k → k < end → is_special (get_or s k 0) ≡ false)
    → end < most.block + start → end ≤ most.stream → InBody most s start at d → InBody most s start end d
body_run most s start at end d low high plain short early so =
    subst (λ n. InBody most s start n d) place (body_text most s start at d t (drop n (drop at s)) (sym (take-append-drop n (drop at s))) (drop-drop n at s ∙ ap (λ m. drop (at + m) s) (sym size)) each (omega (arith, place, short)) (omega (arith, place, early)) so)
  where
    n : ℕ
    n = end - at

    t : List ℕ
    t = take n (drop at s)

    long : length (drop at s) ≡ length s - at
    long = length-drop at s

    size : length t ≡ n
    size = length-take-le n (drop at s) (omega (arith, long, low, high))

    place : at + length t ≡ end
    place = omega (arith, size, low)

    each : IsText t
    each k less = ap is_special (get_or-take n (drop at s) k 0 (omega (arith, size, less)) ∙ get_or-drop at s k 0) ∙ plain (at + k) (omega arith) (omega (arith, size, less))

-- a wrong byte in a tag
pub tag_bad : (most : Limits) (s : List ℕ) (start at levels i : ℕ) → (so : NameUpTo most.tag s at i) → i < length s → is_bad_tag most.tag so.0 (get_or s i 0) ≡ true
    → i < most.block + start → i ≤ most.stream → AtTag most s start at levels → Breaks most s start i bad_tag
tag_bad most s start at levels i named some bad short early so =
    halt most s start i (tag_of start so.0 levels named.0) bad_tag some (in_name most s start at levels i named short early so) (cond-true _ _ _ bad)

-- what is known of a part of the stream, by offsets of the whole
pub shifted : (s : List ℕ) (at n r : ℕ) → r ≤ n → ((k : ℕ) → k < r → is_special (get_or (take n (drop at s)) k 0) ≡ false)
    → (k : ℕ) → at ≤ k → k < at + r → is_special (get_or s k 0) ≡ false
shifted s at n r few plain k low high =
    let place : at + (k - at) ≡ k = omega (arith, low) in
    let less : k - at < n = omega (arith, few, low, high) in
    ap is_special (sym (get_or-take n (drop at s) (k - at) 0 less ∙ get_or-drop at s (k - at) 0 ∙ ap (λ j. get_or s j 0) place)) ∙ plain (k - at) (omega (arith, low, high))

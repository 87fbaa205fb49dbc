-- A stream has one reading and one first fault.
use Rattle.std.proofs.Common.{◌≡◌, ℕ, zero, suc, ◌<◌, ◌≤◌, Bool, true, false, not, nat_eq, nat_le, List, [], ◌∷◌, ◌++◌, length, refl, sym, ap, ◌∙◌, subst, arith, append_assoc, append-nil, length-append, ◌⊎◌, inl, inr, ⊎_elim}
use Rattle.std.proofs.lemmas.Bool.{and_parts, and_from, leb-true, leb-false, false≢true}
use Rattle.std.specs.List.{list_all}
use Rattle.meta_format.specs.Limits.{Limits, IsRoomy}
use Rattle.meta_format.specs.Stream.{Outer, IsNoise, Chain, none, next as chain_next, IsOpenTail, Stream}
use Rattle.meta_format.specs.Faults.{Kind, bad_tag, too_deep, too_long, in_tag, in_body, EndsIn, IsFault, FirstFault, IsSound}
use Rattle.meta_format.specs.inside.Machine.{Mode, outside, tag_of, body_of, escape_of, broken, State, start_state, run, IsAlive}
use Rattle.meta_format.proofs.Places.{HasPlace}
use Rattle.meta_format.proofs.Reaching.{only_at, Left, clear, going, fallen, left, right_outside}
use Rattle.meta_format.proofs.Sound.{stream_out, alive_early, broken_stopped}

-- where the last of the blocks stops
abbrev last_stop : List Outer → ℕ → ℕ
last_stop [] n = n
last_stop (o ∷ os) n = last_stop os o.stop

last_stop-push : (os : List Outer) (o : Outer) (n : ℕ) → last_stop (os ++ o ∷ []) n ≡ o.stop
last_stop-push [] o n = refl
last_stop-push (p ∷ os) o n = last_stop-push os o p.stop

chain_stop : (most : Limits) (blocks : List Outer) (before : List ℕ) → Chain most blocks before → length before ≡ last_stop blocks 0
chain_stop most _ _ none = refl
chain_stop most _ _ (chain_next {blocks} {before} noise spelling b chain silent outer) =
    sym (last_stop-push blocks record { start = length (before ++ noise); stop = length (before ++ noise ++ spelling); block = b } 0)

-- no chain ends after the longest stream
chain_early : (most : Limits) (blocks : List Outer) (before : List ℕ) → Chain most blocks before → length before ≤ most.stream
chain_early most _ _ none = omega arith
chain_early most _ _ (chain_next {blocks} {before} noise spelling b chain silent outer) =
    let early = outer.early in
    let long = length-append (before ++ noise) spelling in
    omega arith

-- lists that are equal, cut at equal lengths
cut : (xs ys us vs : List ℕ) → length xs ≡ length ys → xs ++ us ≡ ys ++ vs → (xs ≡ ys) × (us ≡ vs)
cut [] [] us vs h e = (refl, e)
cut [] (y ∷ ys) us vs h e = absurd (omega arith)
cut (x ∷ xs) [] us vs h e = absurd (omega arith)
cut (x ∷ xs) (y ∷ ys) us vs h e =
    let head : x ≡ y = cc in
    let tail : xs ++ us ≡ ys ++ vs = cc in
    let rest = cut xs ys us vs (omega arith) tail in
    (ap (λ z. z ∷ xs) head ∙ ap (λ zs. y ∷ zs) rest.0, rest.1)

-- nothing, or a 2 in front
abbrev Marked : List ℕ → Type 0
Marked t = (t ≡ []) ⊎ ((more : List ℕ) × (t ≡ 2 ∷ more))

no_two : (noise : List ℕ) → IsNoise (2 ∷ noise) → ⊥
no_two noise h = let p = and_parts false (list_all (λ c. not (nat_eq c 2)) noise) h in false≢true p.0

same_tail : (noise other tail rest : List ℕ) → IsNoise noise → IsNoise other → Marked tail → Marked rest → noise ++ tail ≡ other ++ rest → tail ≡ rest
same_tail [] [] tail rest h k m n e = e
same_tail [] (c ∷ other) tail rest h k m n e = ⊎_elim
    (λ none. let no : [] ≡ c ∷ (other ++ rest) = sym none ∙ e in cc)
    (λ two. let same : 2 ∷ two.0 ≡ c ∷ (other ++ rest) = sym two.1 ∙ e in let head : c ≡ 2 = cc in absurd (no_two other (subst (λ x. IsNoise (x ∷ other)) head k))) m
same_tail (c ∷ noise) [] tail rest h k m n e = ⊎_elim
    (λ none. let no : [] ≡ c ∷ (noise ++ tail) = sym none ∙ sym e in cc)
    (λ two. let same : 2 ∷ two.0 ≡ c ∷ (noise ++ tail) = sym two.1 ∙ sym e in let head : c ≡ 2 = cc in absurd (no_two noise (subst (λ x. IsNoise (x ∷ noise)) head h))) n
same_tail (c ∷ noise) (d ∷ other) tail rest h k m n e =
    let p = and_parts (not (nat_eq c 2)) (list_all (λ x. not (nat_eq x 2)) noise) h in
    let q = and_parts (not (nat_eq d 2)) (list_all (λ x. not (nat_eq x 2)) other) k in
    let same : noise ++ tail ≡ other ++ rest = cc in
    same_tail noise other tail rest p.1 q.1 m n same

marked : (most : Limits) (n : ℕ) (tail : List ℕ) → (tail ≡ []) ⊎ IsOpenTail most n tail → Marked tail
marked most n tail h = ⊎_elim (λ e. inl e) (λ o. inr o.begins) h

tails : (most : Limits) (s : List ℕ) (blocks others : List Outer) (tail rest : List ℕ) → blocks ≡ others → Stream most s blocks tail → Stream most s others rest → tail ≡ rest
tails most s blocks others tail rest same a b =
    let size : length a.before ≡ length b.before = chain_stop most blocks a.before a.chain ∙ ap (λ os. last_stop os 0) same ∙ sym (chain_stop most others b.before b.chain) in
    let e = sym (append_assoc a.before a.noise tail) ∙ sym a.is ∙ b.is ∙ append_assoc b.before b.noise rest in
    let parts = cut a.before b.before (a.noise ++ tail) (b.noise ++ rest) size e in
    same_tail a.noise b.noise tail rest a.silent b.silent (marked most (length (a.before ++ a.noise)) tail a.rest) (marked most (length (b.before ++ b.noise)) rest b.rest) parts.1

either : (m n : ℕ) → (m ≤ n) ⊎ (n < m)
either m n = by_test (nat_le m n) refl
  where
    by_test : (t : Bool) → nat_le m n ≡ t → (m ≤ n) ⊎ (n < m)
    by_test true e = inl (leb-true m n e)
    by_test false e = inr (leb-false m n e)

-- what a front of equal lists leaves
after_front : (xs ys us vs : List ℕ) → xs ++ ys ≡ us ++ vs → length xs ≤ length us → (ws : List ℕ) × (us ≡ xs ++ ws) × (ys ≡ ws ++ vs)
after_front [] ys us vs e h = (us, refl, e)
after_front (x ∷ xs) ys [] vs e h = absurd (omega arith)
after_front (x ∷ xs) ys (u ∷ us) vs e h =
    let head : x ≡ u = cc in
    let tail : xs ++ ys ≡ us ++ vs = cc in
    let rest = after_front xs ys us vs tail (omega arith) in
    (rest.0, ap (λ z. z ∷ us) (sym head) ∙ ap (λ zs. x ∷ zs) rest.1, rest.2)

noise_front : (xs ys : List ℕ) → IsNoise (xs ++ ys) → IsNoise xs
noise_front [] ys h = refl
noise_front (x ∷ xs) ys h =
    let p = and_parts (not (nat_eq x 2)) (list_all (λ c. not (nat_eq c 2)) (xs ++ ys)) h in
    and_from (not (nat_eq x 2)) (list_all (λ c. not (nat_eq c 2)) xs) p.0 (noise_front xs ys p.1)

-- a front of an open tail is open, or nothing
open_front : (most : Limits) (n : ℕ) (tail us vs : List ℕ) → tail ≡ us ++ vs → (tail ≡ []) ⊎ IsOpenTail most n tail → (us ≡ []) ⊎ IsOpenTail most n us
open_front most n tail [] vs e h = inl refl
open_front most n tail (u ∷ us) vs e (inl nothing) = let no : [] ≡ u ∷ (us ++ vs) = sym nothing ∙ e in cc
open_front most n tail (u ∷ us) vs e (inr o) =
    let same : 2 ∷ o.begins.0 ≡ u ∷ (us ++ vs) = sym o.begins.1 ∙ e in
    let head : u ≡ 2 = cc in
    inr record {
      begins = (us, ap (λ z. z ∷ us) head);
      unfinished = λ b front more f outer. o.unfinished b front (more ++ vs) (e ∙ ap (λ z. z ++ vs) f ∙ append_assoc front more vs) outer;
    }

-- a stream has the same blocks up to the limit of its length
shortened : (most : Limits) (us vs : List ℕ) (blocks : List Outer) (tail : List ℕ) → most.stream ≤ length us → Stream most (us ++ vs) blocks tail → (rest : List ℕ) × Stream most us blocks rest
shortened most us vs blocks tail h st = by_noise (either (length st.noise) (length inside.0))
  where
    inside : (ws : List ℕ) × (us ≡ st.before ++ ws) × (st.noise ++ tail ≡ ws ++ vs)
    inside = let early = chain_early most blocks st.before st.chain in
        after_front st.before (st.noise ++ tail) us vs (sym (append_assoc st.before st.noise tail) ∙ sym st.is) (omega arith)

    by_noise : (length st.noise ≤ length inside.0) ⊎ (length inside.0 < length st.noise) → (rest : List ℕ) × Stream most us blocks rest
    by_noise (inl short) =
        let following = after_front st.noise tail inside.0 vs inside.2 short in (
          following.0,
          record {
            before = st.before;
            noise = st.noise;
            is = inside.1 ∙ ap (λ z. st.before ++ z) following.1 ∙ sym (append_assoc st.before st.noise following.0);
            chain = st.chain;
            silent = st.silent;
            rest = open_front most (length (st.before ++ st.noise)) tail following.0 vs following.2 st.rest;
          },
        )
    by_noise (inr long) =
        let following = after_front inside.0 vs st.noise tail (sym inside.2) (omega arith) in (
          [],
          record {
            before = st.before;
            noise = inside.0;
            is = inside.1 ∙ sym (append-nil (st.before ++ inside.0));
            chain = st.chain;
            silent = noise_front inside.0 following.0 (subst IsNoise following.1 st.silent);
            rest = inl refl;
          },
        )

split_at : (n : ℕ) (s : List ℕ) → n ≤ length s → (us : List ℕ) × (vs : List ℕ) × (s ≡ us ++ vs) × (length us ≡ n)
split_at zero s h = ([], s, refl, refl)
split_at (suc n) [] h = absurd (omega arith)
split_at (suc n) (x ∷ s) h = let rest = split_at n s (omega arith) in (x ∷ rest.0, rest.1, ap (λ z. x ∷ z) rest.2, ap suc rest.3)

blocks_same : (most : Limits) → IsRoomy most → (s : List ℕ) (blocks others : List Outer) (tail rest : List ℕ) → Stream most s blocks tail → Stream most s others rest → blocks ≡ others
blocks_same most fit s blocks others tail rest a b = by_length (either (length s) most.stream)
  where
    by_length : (length s ≤ most.stream) ⊎ (most.stream < length s) → blocks ≡ others
    by_length (inl early) = sym (stream_out most fit s blocks tail a early) ∙ stream_out most fit s others rest b early
    by_length (inr late) =
        let cut_at = split_at most.stream s (omega arith) in
        let us = cut_at.0 in
        let size = cut_at.3 in
        let p = shortened most us cut_at.1 blocks tail (omega arith) (subst (λ z. Stream most z blocks tail) cut_at.2 a) in
        let q = shortened most us cut_at.1 others rest (omega arith) (subst (λ z. Stream most z others rest) cut_at.2 b) in
        sym (stream_out most fit us blocks p.0 p.1 (omega arith)) ∙ stream_out most fit us others q.0 q.1 (omega arith)

pub one_reading : (most : Limits) → IsRoomy most → (s : List ℕ) (blocks others : List Outer) (tail rest : List ℕ) → Stream most s blocks tail → Stream most s others rest → (blocks ≡ others) × (tail ≡ rest)
one_reading most fit s blocks others tail rest a b =
    let same = blocks_same most fit s blocks others tail rest a b in
    (same, tails most s blocks others tail rest same a b)

-- one kind of fault for a byte

no_place : (m : Mode) (name : List ℕ) (n : ℕ) → HasPlace m (in_tag name) → HasPlace m (in_body n) → ⊥
no_place outside name n h k = h
no_place (tag_of start ms levels other) name n h k = k
no_place (body_of start ms d) name n h k = h
no_place (escape_of start ms d) name n h k = h
no_place (broken kind f) name n h k = h

exclusive : (most : Limits) (at : ℕ) (tail : List ℕ) (c : ℕ) → ((name : List ℕ) → EndsIn most tail (in_tag name) → EndsIn most tail (in_body most.levels) → ⊥) → (kind other : Kind)
    → IsFault most at tail c kind → IsFault most at tail c other → kind ≡ other
exclusive most at tail c apart bad_tag bad_tag h k = refl
exclusive most at tail c apart bad_tag too_deep h k = absurd (apart h.0 h.1 k.0)
exclusive most at tail c apart bad_tag too_long h k = absurd (k.0 bad_tag h)
exclusive most at tail c apart too_deep bad_tag h k = absurd (apart k.0 k.1 h.0)
exclusive most at tail c apart too_deep too_deep h k = refl
exclusive most at tail c apart too_deep too_long h k = absurd (k.0 too_deep h)
exclusive most at tail c apart too_long bad_tag h k = absurd (h.0 bad_tag k)
exclusive most at tail c apart too_long too_deep h k = absurd (h.0 too_deep k)
exclusive most at tail c apart too_long too_long h k = refl

apart_in : (most : Limits) → (front : List ℕ) (blocks : List Outer) (tail : List ℕ) (q : State) → IsAlive q.mode → Left most front blocks tail q
    → (name : List ℕ) → EndsIn most tail (in_tag name) → EndsIn most tail (in_body most.levels) → ⊥
apart_in most front blocks tail q alive (clear before noise e chain silent nothing there) name h k =
    right_outside most 2 too_deep (subst (λ t. EndsIn most t (in_body most.levels)) nothing k, refl)
apart_in most front blocks tail q alive (going before noise e chain silent g) name h k =
    no_place q.mode name most.levels (only_at most (length (before ++ noise)) blocks tail q g (in_tag name) h) (only_at most (length (before ++ noise)) blocks tail q g (in_body most.levels) k)
apart_in most front blocks tail q alive (fallen br) name h k = subst (λ p. IsAlive p.mode) br.2 alive

same_kind : (most : Limits) → IsRoomy most → (front : List ℕ) (blocks others : List Outer) (tail rest : List ℕ) (byte : ℕ) (kind other : Kind) → Stream most front blocks tail → Stream most front others rest
    → IsAlive (run most start_state front).mode → IsFault most (length front) tail byte kind → IsFault most (length front) rest byte other → kind ≡ other
same_kind most fit front blocks others tail rest byte kind other a b alive h k =
    let same = (one_reading most fit front blocks others tail rest a b).1 in
    let early = alive_early most fit front alive in
    exclusive most (length front) tail byte (apart_in most front blocks tail (run most start_state front) alive (left most fit front blocks tail a early)) kind other h
    (subst (λ t. IsFault most (length front) t byte other) (sym same) k)

sound_alive : (most : Limits) → IsRoomy most → (s : List ℕ) → IsSound most s → IsAlive (run most start_state s).mode
sound_alive most fit s sound = by_mode (run most start_state s).mode refl
  where
    q : State
    q = run most start_state s

    by_mode : (m : Mode) → q.mode ≡ m → IsAlive m
    by_mode outside e = tt
    by_mode (tag_of start ms levels name) e = tt
    by_mode (body_of start ms d) e = tt
    by_mode (escape_of start ms d) e = tt
    by_mode (broken kind f) e =
        let stopped = broken_stopped most fit s f q.at q.out kind (ap (λ m. record { at = q.at; out = q.out; mode = m }) e) in
        sound f kind stopped.first.fault

-- no fault lies before the first
sound_front : (most : Limits) (s : List ℕ) (at : ℕ) (kind : Kind) (h : FirstFault most s at kind) → IsSound most h.fault.front
sound_front most s at kind h before other inner =
    let fault = h.fault in
    let long = length-append inner.front (inner.byte ∷ inner.more) in
    let size = ap length inner.is in
    let here = inner.at_is in
    let there = fault.at_is in
    h.first before other (omega arith) record {
      byte = inner.byte;
      more = inner.more ++ fault.byte ∷ fault.more;
      front = inner.front;
      blocks = inner.blocks;
      tail = inner.tail;
      is = fault.is ∙ ap (λ z. z ++ fault.byte ∷ fault.more) inner.is ∙ append_assoc inner.front (inner.byte ∷ inner.more) (fault.byte ∷ fault.more);
      at_is = inner.at_is;
      stream = inner.stream;
      fault = inner.fault;
    }

one_place : (most : Limits) (s : List ℕ) (at place : ℕ) (kind other : Kind) → FirstFault most s at kind → FirstFault most s place other → at ≡ place
one_place most s at place kind other a b =
    ⊎_elim (λ h. ⊎_elim (λ k. omega arith) (λ k. absurd (b.first at kind k a.fault)) (either place at)) (λ h. absurd (a.first place other h b.fault)) (either at place)

pub one_fault : (most : Limits) → IsRoomy most → (s : List ℕ) (at place : ℕ) (kind other : Kind) → FirstFault most s at kind → FirstFault most s place other → (at ≡ place) × (kind ≡ other)
one_fault most fit s at place kind other a b = (same, kinds)
  where
    same : at ≡ place
    same = one_place most s at place kind other a b

    parts : (a.fault.front ≡ b.fault.front) × (a.fault.byte ∷ a.fault.more ≡ b.fault.byte ∷ b.fault.more)
    parts = cut a.fault.front b.fault.front (a.fault.byte ∷ a.fault.more) (b.fault.byte ∷ b.fault.more) (sym a.fault.at_is ∙ same ∙ b.fault.at_is) (sym a.fault.is ∙ b.fault.is)

    kinds : kind ≡ other
    kinds =
        let front = a.fault.front in
        let rest = parts.1 in
        let byte : a.fault.byte ≡ b.fault.byte = cc in
        let alive = sound_alive most fit front (sound_front most s at kind a) in
        same_kind most fit front a.fault.blocks b.fault.blocks a.fault.tail b.fault.tail a.fault.byte kind other a.fault.stream (subst (λ z. Stream most z b.fault.blocks b.fault.tail) (sym parts.0) b.fault.stream) alive
        (subst (λ n. IsFault most n a.fault.tail a.fault.byte kind) a.fault.at_is a.fault.fault)
        (subst (λ n. IsFault most n b.fault.tail a.fault.byte other) (sym same ∙ a.fault.at_is) (subst (λ c. IsFault most place b.fault.tail c other) (sym byte) b.fault.fault))

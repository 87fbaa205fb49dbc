-- Every stream has a reading.
use Rattle.std.proofs.Common.{◌≡◌, ℕ, ◌≤◌, Bool, true, false, not, nat_eq, List, [], ◌∷◌, ◌++◌, length, refl, sym, ap, ◌∙◌, subst, arith, append_assoc, append-nil, length-append, ◌⊎◌, inl, inr, ⊎_elim}
use Rattle.std.proofs.lemmas.Bool.{and_from, and_parts, eqb-true, not_from_false}
use Rattle.std.specs.List.{list_all}
use Rattle.block_tree.specs.Tree.{Tree}
use Rattle.meta_format.specs.Limits.{Limits, IsRoomy}
use Rattle.meta_format.specs.Stream.{Outer, IsNoise, IsOuter, Chain, IsOpenTail, Stream}
use Rattle.meta_format.specs.Faults.{Kind, bad_tag, too_deep, too_long, IsFault}
use Rattle.meta_format.specs.inside.Machine.{outside, broken, start_state, run}
use Rattle.meta_format.proofs.Spelled.{run-append}
use Rattle.meta_format.proofs.Reaching.{front_seen, lead_run, right_outside, going_open, Reached, at_noise, at_tail, at_fault, reach}
use Rattle.meta_format.proofs.Sound.{alive_early}

-- what is read of a stream
pub record Reading (most : Limits) (s : List ℕ) : Type 0 where
  pub blocks : List Outer
  pub tail : List ℕ
  pub stream : Stream most s blocks tail

-- noise, and then nothing or a 2
record Parted (s : List ℕ) : Type 0 where
  pub noise : List ℕ
  pub rest : List ℕ
  pub is : s ≡ noise ++ rest
  pub silent : IsNoise noise
  pub marked : (rest ≡ []) ⊎ ((more : List ℕ) × (rest ≡ 2 ∷ more))

parted : (s : List ℕ) → Parted s
parted [] = record { noise = []; rest = []; is = refl; silent = refl; marked = inl refl }
parted (c ∷ s) = by_test (nat_eq c 2) refl (parted s)
  where
    by_test : (t : Bool) → nat_eq c 2 ≡ t → Parted s → Parted (c ∷ s)
    by_test true e p = record { noise = []; rest = c ∷ s; is = refl; silent = refl; marked = inr (s, ap (λ x. x ∷ s) (eqb-true c 2 e)) }
    by_test false e p = record {
      noise = c ∷ p.noise;
      rest = p.rest;
      is = ap (λ x. c ∷ x) p.is;
      silent = and_from (not (nat_eq c 2)) (list_all (λ x. not (nat_eq x 2)) p.noise) (not_from_false (nat_eq c 2) e) p.silent;
      marked = p.marked;
    }

noise_more : (xs ys : List ℕ) → IsNoise xs → IsNoise ys → IsNoise (xs ++ ys)
noise_more [] ys h k = k
noise_more (x ∷ xs) ys h k = let p = and_parts (not (nat_eq x 2)) (list_all (λ c. not (nat_eq c 2)) xs) h in and_from (not (nat_eq x 2)) (list_all (λ c. not (nat_eq c 2)) (xs ++ ys)) p.0 (noise_more xs ys p.1 k)

-- no block begins at the limit of a stream
none_late : (most : Limits) (n : ℕ) (b : Tree) (front : List ℕ) → most.stream ≤ n → IsOuter most n b front → ⊥
none_late most n b front h outer =
    let early = outer.early in
    let is = ap length outer.spelled.is in
    absurd (omega arith)

-- a stream that goes on in noise after its limit
late_reading : (most : Limits) (before noise more s : List ℕ) (blocks : List Outer) → s ≡ (before ++ noise) ++ more → Chain most blocks before → IsNoise noise → most.stream ≤ length (before ++ noise) → Reading most s
late_reading most before noise more s blocks e chain silent late =
    let p = parted more in
    let whole : s ≡ before ++ (noise ++ p.noise) ++ p.rest = e ∙ ap (λ m. (before ++ noise) ++ m) p.is ∙ sym (append_assoc (before ++ noise) p.noise p.rest) ∙ ap (λ z. z ++ p.rest) (append_assoc before noise p.noise) in
    record {
      blocks = blocks;
      tail = p.rest;
      stream = record {
        before = before;
        noise = noise ++ p.noise;
        is = whole;
        chain = chain;
        silent = noise_more noise p.noise silent p.silent;
        rest = ⊎_elim (λ none. inl none) (λ two. inr record {
          begins = two;
          unfinished = λ b front others f outer.
              let long = length-append before (noise ++ p.noise) in let longer = length-append noise p.noise in let short = length-append before noise in
              none_late most (length (before ++ (noise ++ p.noise))) b front (omega arith) outer;
        }) p.marked;
      };
    }

-- a stream whose open tail meets a fault
open_reading : (most : Limits) (before noise tail more s : List ℕ) (blocks : List Outer) (at : ℕ) (kind : Kind) → s ≡ (before ++ noise) ++ (tail ++ more) → Chain most blocks before → IsNoise noise
    → length (before ++ noise) ≤ most.stream → (begun : (others : List ℕ) × (tail ≡ 2 ∷ others)) → run most start_state s ≡ record { at = at; out = blocks; mode = broken kind at } → Reading most s
open_reading most before noise tail more s blocks at kind e chain silent early begun ran =
    let a = length (before ++ noise) in
    let there : run most record { at = a; out = blocks; mode = outside } (tail ++ more) ≡ record { at = at; out = blocks; mode = broken kind at } =
    ap (λ q. run most q (tail ++ more)) (sym (lead_run most blocks before noise chain silent early)) ∙ sym (run-append most start_state (before ++ noise) (tail ++ more)) ∙ ap (run most start_state) (sym e) ∙ ran in
    record {
      blocks = blocks;
      tail = tail ++ more;
      stream = record {
        before = before;
        noise = noise;
        is = e;
        chain = chain;
        silent = silent;
        rest = inr record {
          begins = (begun.0 ++ more, ap (λ t. t ++ more) begun.1);
          unfinished = λ b front others f outer.
              let seen = front_seen most a blocks b front others outer in
              let same = ap (λ t. length (run most record { at = a; out = blocks; mode = outside } t).out) (sym f) ∙ ap (λ q. length q.out) there in
              absurd (omega arith);
        };
      };
    }

pub a_reading : (most : Limits) → IsRoomy most → (s : List ℕ) → Reading most s
a_reading most fit s = let r = reach most fit s in by_reach r.0 r.1
  where
    by_fault : (blocks : List Outer) (front : List ℕ) (byte : ℕ) (more tail : List ℕ) (kind : Kind) → s ≡ front ++ byte ∷ more → (st : Stream most front blocks tail) → IsFault most (length front) tail byte kind
        → length front ≤ most.stream → run most start_state s ≡ record { at = length front; out = blocks; mode = broken kind (length front) } → (tail ≡ []) ⊎ IsOpenTail most (length (st.before ++ st.noise)) tail → Reading most s
    by_fault blocks front byte more tail bad_tag e st fault early ran (inl nothing) = absurd (right_outside most byte bad_tag (subst (λ t. IsFault most (length front) t byte bad_tag) nothing fault))
    by_fault blocks front byte more tail too_deep e st fault early ran (inl nothing) = absurd (right_outside most byte too_deep (subst (λ t. IsFault most (length front) t byte too_deep) nothing fault))
    by_fault blocks front byte more tail too_long e st fault early ran (inl nothing) =
        let none = ap length nothing in
        let big = fit.block in
        let late : most.stream ≤ length front = ⊎_elim (λ f. let g = f.0 in absurd (omega arith)) (λ f. omega arith) fault.1 in
        let same : front ≡ st.before ++ st.noise = st.is ∙ ap (λ t. st.before ++ st.noise ++ t) nothing ∙ append-nil (st.before ++ st.noise) in
        late_reading most st.before st.noise (byte ∷ more) s blocks (e ∙ ap (λ f. f ++ byte ∷ more) same) st.chain st.silent (subst (λ f. most.stream ≤ length f) same late)
    by_fault blocks front byte more tail kind e st fault early ran (inr o) =
        let size = ap length st.is in
        let long = length-append (st.before ++ st.noise) tail in
        open_reading most st.before st.noise tail (byte ∷ more) s blocks (length front) kind
        (e ∙ ap (λ f. f ++ byte ∷ more) st.is ∙ append_assoc (st.before ++ st.noise) tail (byte ∷ more)) st.chain st.silent (omega arith) o.begins ran

    by_reach : (blocks : List Outer) → Reached most s blocks (run most start_state s) → Reading most s
    by_reach blocks (at_noise before noise e chain silent there early) =
        record { blocks = blocks; tail = []; stream = record { before = before; noise = noise; is = e ∙ sym (append-nil (before ++ noise)); chain = chain; silent = silent; rest = inl refl } }
    by_reach blocks (at_tail before noise tail e chain silent g) =
        record { blocks = blocks; tail = tail; stream = record { before = before; noise = noise; is = e; chain = chain; silent = silent; rest = inr (going_open most (length (before ++ noise)) blocks tail (run most start_state s) g) } }
    by_reach blocks (at_fault front byte more tail kind e stream fault alive there) =
        by_fault blocks front byte more tail kind e stream fault (alive_early most fit front alive) there stream.rest

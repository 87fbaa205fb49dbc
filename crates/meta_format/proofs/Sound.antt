-- The machine stops exactly at the first fault.
use Rattle.std.proofs.Common.{◌≡◌, ℕ, ◌+◌, ◌<◌, ◌≤◌, nat_le, List, [], ◌∷◌, ◌++◌, length, refl, sym, ap, ◌∙◌, subst, arith, append_assoc, append-nil, length-append, inl, inr, ⊎_elim}
use Rattle.std.proofs.lemmas.Bool.{cond-true, le-leb}
use Rattle.meta_format.specs.Limits.{Limits, IsRoomy}
use Rattle.meta_format.specs.Stream.{Outer, Stream}
use Rattle.meta_format.specs.Faults.{Kind, bad_tag, too_deep, too_long, IsFault, FaultAt, FirstFault, IsSound}
use Rattle.meta_format.specs.inside.Machine.{outside, broken, State, start_state, halts, apply, next, run, IsAlive}
use Rattle.meta_format.proofs.Spelled.{run-append}
use Rattle.meta_format.proofs.Reaching.{IsBrokenWith, After, goes_on, ends_there, breaks, going_step, going_open, alive_before, right_outside, Left, clear, going, fallen, left, going_alive, Reached, at_noise, at_tail, at_fault, reach}

alive_front : (most : Limits) (front t : List ℕ) → IsAlive (run most start_state (front ++ t)).mode → IsAlive (run most start_state front).mode
alive_front most front t h =
    let q = run most start_state front in
    alive_before most q.at q.out q.mode t (subst (λ p. IsAlive p.mode) (run-append most start_state front t) h)

-- no stream is longer, where the machine still goes
pub alive_early : (most : Limits) → IsRoomy most → (s : List ℕ) → IsAlive (run most start_state s).mode → length s ≤ most.stream
alive_early most fit s h = let r = reach most fit s in by_reach r.0 r.1
  where
    by_reach : (blocks : List Outer) → Reached most s blocks (run most start_state s) → length s ≤ most.stream
    by_reach blocks (at_noise before noise e chain silent there early) = early
    by_reach blocks (at_tail before noise tail e chain silent g) =
        let at = g.at in let early = g.early in let long = length-append (before ++ noise) tail in omega (arith, ap length e)
    by_reach blocks (at_fault front byte more tail kind e stream fault alive there) = absurd (subst (λ q. IsAlive q.mode) there h)

broken_is_dead : (out : List Outer) (q : State) → IsBrokenWith out q → IsAlive q.mode → ⊥
broken_is_dead out q (kind, f, e) h = subst (λ p. IsAlive p.mode) e h

-- after noise
fault_outside : (most : Limits) → IsRoomy most → (n : ℕ) (blocks : List Outer) (byte : ℕ) (kind : Kind) → IsFault most n [] byte kind → IsAlive (next most record { at = n; out = blocks; mode = outside } byte).mode → ⊥
fault_outside most fit n blocks byte bad_tag fault alive = right_outside most byte bad_tag fault
fault_outside most fit n blocks byte too_deep fault alive = right_outside most byte too_deep fault
fault_outside most fit n blocks byte too_long fault alive = ⊎_elim
    (λ f. let a = f.0 in let b = fit.block in absurd (omega arith))
    (λ f. let g : most.stream ≤ n = omega arith in subst (λ w. IsAlive (apply record { at = n; out = blocks; mode = outside } w).mode) (cond-true (nat_le most.stream n) (halts too_long) _ (le-leb most.stream n g)) alive) fault.1

-- after an open tail
fault_inside : (most : Limits) (a : ℕ) (blocks : List Outer) (tail : List ℕ) (byte : ℕ) (kind : Kind) (p : State) → IsFault most (a + length tail) tail byte kind → IsAlive p.mode
    → After most a blocks tail byte p → ⊥
fault_inside most a blocks tail byte bad_tag p fault alive (goes_on h right) = right bad_tag fault
fault_inside most a blocks tail byte too_deep p fault alive (goes_on h right) = right too_deep fault
fault_inside most a blocks tail byte too_long p fault alive (goes_on h right) =
    let short = h.short in let at = h.at in let early = h.early in let longer = length-append tail (byte ∷ []) in
    ⊎_elim (λ f. let g = f.0 in absurd (omega arith)) (λ f. absurd (omega arith)) fault.1
fault_inside most a blocks tail byte bad_tag p fault alive (ends_there ms b shut right e) = right bad_tag fault
fault_inside most a blocks tail byte too_deep p fault alive (ends_there ms b shut right e) = right too_deep fault
fault_inside most a blocks tail byte too_long p fault alive (ends_there ms b shut right e) =
    let early = b.early in let longer = length-append tail (byte ∷ []) in
    ⊎_elim (λ f. f.1 shut) (λ f. absurd (omega arith)) fault.1
fault_inside most a blocks tail byte kind p fault alive (breaks other found e) = subst (λ q. IsAlive q.mode) e alive

pub alive_sound : (most : Limits) → IsRoomy most → (s : List ℕ) → IsAlive (run most start_state s).mode → IsSound most s
alive_sound most fit s alive at kind fault =
    let front = fault.front in
    let byte = fault.byte in
    let whole : s ≡ (front ++ byte ∷ []) ++ fault.more = fault.is ∙ sym (append_assoc front (byte ∷ []) fault.more) in
    let alive_all = subst (λ x. IsAlive (run most start_state x).mode) whole alive in
    let alive_next = alive_front most (front ++ byte ∷ []) fault.more alive_all in
    let alive_here = alive_front most front (byte ∷ []) alive_next in
    let stepped = subst (λ q. IsAlive q.mode) (run-append most start_state front (byte ∷ [])) alive_next in
    let early = alive_early most fit front alive_here in
    let wrong = subst (λ n. IsFault most n fault.tail byte kind) fault.at_is fault.fault in
    by_left front byte fault.blocks fault.tail alive_here stepped wrong (left most fit front fault.blocks fault.tail fault.stream early)
  where
    by_left : (front : List ℕ) (byte : ℕ) (blocks : List Outer) (tail : List ℕ) → IsAlive (run most start_state front).mode → IsAlive (next most (run most start_state front) byte).mode
        → IsFault most (length front) tail byte kind → Left most front blocks tail (run most start_state front) → ⊥
    by_left front byte blocks tail here stepped wrong (clear before noise e chain silent none there) =
        fault_outside most fit (length front) blocks byte kind (subst (λ t. IsFault most (length front) t byte kind) none wrong) (subst (λ q. IsAlive (next most q byte).mode) there stepped)
    by_left front byte blocks tail here stepped wrong (going before noise e chain silent g) =
        let a = length (before ++ noise) in
        let long = length-append (before ++ noise) tail in
        let size : length front ≡ a + length tail = omega (arith, ap length e) in
        fault_inside most a blocks tail byte kind (next most (run most start_state front) byte) (subst (λ n. IsFault most n tail byte kind) size wrong) stepped
        (going_step most a blocks tail byte (run most start_state front) g)
    by_left front byte blocks tail here stepped wrong (fallen br) = broken_is_dead blocks (run most start_state front) br here

-- the shorter of two fronts of a list
shorter_front : (xs ys : List ℕ) (x y : ℕ) (us vs : List ℕ) → xs ++ x ∷ us ≡ ys ++ y ∷ vs → length xs < length ys → (mid : List ℕ) × (ys ≡ xs ++ x ∷ mid)
shorter_front [] [] x y us vs e h = absurd (omega arith)
shorter_front [] (z ∷ ys) x y us vs e h = (ys, let f : z ≡ x = cc in ap (λ w. w ∷ ys) f)
shorter_front (w ∷ xs) [] x y us vs e h = absurd (omega arith)
shorter_front (w ∷ xs) (z ∷ ys) x y us vs e h =
    let f : xs ++ x ∷ us ≡ ys ++ y ∷ vs = cc in
    let g : z ≡ w = cc in
    let r = shorter_front xs ys x y us vs f (omega arith) in
    (r.0, ap (λ v. v ∷ ys) g ∙ ap (λ v. w ∷ v) r.1)

-- what reaches the end has its blocks and no fault
pub record Read (most : Limits) (s : List ℕ) (blocks : List Outer) : Type 0 where
  pub tail : List ℕ
  pub stream : Stream most s blocks tail
  pub sound : IsSound most s

pub alive_read : (most : Limits) → IsRoomy most → (s : List ℕ) → IsAlive (run most start_state s).mode → Read most s (run most start_state s).out
alive_read most fit s alive = let r = reach most fit s in by_reach r.0 r.1
  where
    by_reach : (blocks : List Outer) → Reached most s blocks (run most start_state s) → Read most s (run most start_state s).out
    by_reach blocks (at_noise before noise e chain silent there early) =
        let made : Stream most s blocks [] = record { before = before; noise = noise; is = e ∙ sym (append-nil (before ++ noise)); chain = chain; silent = silent; rest = inl refl } in
        record { tail = []; stream = subst (λ o. Stream most s o []) (sym (ap (λ q. q.out) there)) made; sound = alive_sound most fit s alive }
    by_reach blocks (at_tail before noise tail e chain silent g) =
        let split = length-append before noise in
        let made : Stream most s blocks tail = record { before = before; noise = noise; is = e; chain = chain; silent = silent; rest = inr (going_open most (length (before ++ noise)) blocks tail (run most start_state s) g) } in
        record { tail = tail; stream = subst (λ o. Stream most s o tail) (sym g.out_is) made; sound = alive_sound most fit s alive }
    by_reach blocks (at_fault front byte more tail kind e stream fault alive2 there) = absurd (subst (λ q. IsAlive q.mode) there alive)

-- what stops at a fault has the blocks before it
pub record Stopped (most : Limits) (s : List ℕ) (at : ℕ) (kind : Kind) (blocks : List Outer) : Type 0 where
  pub first : FirstFault most s at kind
  pub front : List ℕ
  pub rest : List ℕ
  pub tail : List ℕ
  pub is : s ≡ front ++ rest
  pub at_is : at ≡ length front
  pub stream : Stream most front blocks tail

pub broken_stopped : (most : Limits) → IsRoomy most → (s : List ℕ) (f n : ℕ) (out : List Outer) (kind : Kind) → run most start_state s ≡ record { at = n; out = out; mode = broken kind f }
    → Stopped most s f kind out
broken_stopped most fit s f n out kind ran = let r = reach most fit s in by_reach r.0 r.1
  where
    by_reach : (blocks : List Outer) → Reached most s blocks (run most start_state s) → Stopped most s f kind out
    by_reach blocks (at_noise before noise e chain silent there early) = absurd (subst (λ q. IsAlive q.mode) (sym there ∙ ran) tt)
    by_reach blocks (at_tail before noise tail e chain silent g) = absurd (subst (λ q. IsAlive q.mode) ran (going_alive most tail (run most start_state s).mode g.shape))
    by_reach blocks (at_fault front byte more tail kind2 e stream fault alive there) =
        let same = sym there ∙ ran in
        let modes = ap (λ q. q.mode) same in
        let same_kind : kind2 ≡ kind = cc in
        let same_at : length front ≡ f = cc in
        let same_out = ap (λ q. q.out) same in
        let found : FaultAt most s f kind = record {
          byte = byte;
          more = more;
          front = front;
          blocks = blocks;
          tail = tail;
          is = e;
          at_is = sym same_at;
          stream = stream;
          fault = subst (λ k. IsFault most f tail byte k) same_kind (subst (λ m. IsFault most m tail byte kind2) same_at fault);
        } in
        record {
          first = record {
            fault = found;
            first = λ before other less earlier.
                let at_is = earlier.at_is in
                let cut = shorter_front earlier.front front earlier.byte byte earlier.more more (sym earlier.is ∙ e) (omega arith) in
                let inside : FaultAt most front before other = record { byte = earlier.byte; more = cut.0; front = earlier.front; blocks = earlier.blocks; tail = earlier.tail; is = cut.1; at_is = earlier.at_is; stream = earlier.stream; fault = earlier.fault } in
                alive_sound most fit front alive before other inside;
          };
          front = front;
          rest = byte ∷ more;
          tail = tail;
          is = e;
          at_is = sym same_at;
          stream = subst (λ o. Stream most front o tail) same_out stream;
        }

-- the blocks of a stream are those that the machine finds
pub stream_out : (most : Limits) → IsRoomy most → (s : List ℕ) (blocks : List Outer) (tail : List ℕ) → Stream most s blocks tail → length s ≤ most.stream → (run most start_state s).out ≡ blocks
stream_out most fit s blocks tail st early = by_left (left most fit s blocks tail st early)
  where
    by_left : Left most s blocks tail (run most start_state s) → (run most start_state s).out ≡ blocks
    by_left (clear before noise e chain silent none there) = ap (λ q. q.out) there
    by_left (going before noise e chain silent g) = g.out_is
    by_left (fallen br) = ap (λ q. q.out) br.2

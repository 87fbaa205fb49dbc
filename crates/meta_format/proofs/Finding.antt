-- What the machine finds is what comes next in a stream.
use Rattle.std.proofs.Common.{◌≡◌, ℕ, zero, suc, cond, nat_eq, nat_le, ◌+◌, ◌-◌, ◌<◌, ◌≤◌, true, false, List, [], ◌∷◌, ◌++◌, length, take, drop, get_or, refl, sym, ap, ◌∙◌, arith, append_assoc, append-nil, subst, length-append, None}
use Rattle.std.proofs.lemmas.Bool.{cond-true, cond-false, cond_both, le-leb, lt-leb, or_right, eqb-true}
use Rattle.std.proofs.lemmas.List.{length-drop, take-append-drop, length-take-le, drop_all, drop-drop, get_or-take, get_or-drop}
use Rattle.std.proofs.Math.Seq.{take-append_seam}
use Rattle.block_tree.specs.Tree.{Tree}
use Rattle.block_tree.specs.inside.Marks.{letter}
use Rattle.meta_format.specs.Limits.{Limits, IsRoomy}
use Rattle.meta_format.specs.Stream.{Outer, IsOuter, Stream}
use Rattle.meta_format.specs.Faults.{Kind, bad_tag, too_deep, too_long}
use Rattle.meta_format.specs.Reader.{IsPending, ReaderHasRead, Faults}
use Rattle.meta_format.specs.Ahead.{part, IsReadTo, ComesNext, LiesAhead}
use Rattle.meta_format.specs.inside.Machine.{Mode, outside, tag_of, body_of, escape_of, broken, State, start_state, halts, closing, unless_late, after, next, run, is_bad_tag, is_late, IsAlive, begun}
use Rattle.meta_format.specs.inside.Flat.{outside_at, Takes, closed_at, ComesTo, Breaks, AtTag, InBody, InEscape, NameUpTo}
use Rattle.meta_format.specs.inside.Finding.{IsLimit, Finds}
use Rattle.meta_format.specs.declared.ahead.Seen.{Seen}
use Rattle.meta_format.specs.declared.ahead.Seen.TheVariants as seen
use Rattle.meta_format.proofs.Spelled.{run-append}
use Rattle.meta_format.proofs.Unique.{following, run-following, run_broken, block_at}
use Rattle.meta_format.proofs.Tails.{StartsAt}
use Rattle.meta_format.proofs.Letters.{noise_run}
use Rattle.meta_format.proofs.Reaching.{Going, After, goes_on, ends_there, breaks, going_step, first_byte, Left, clear, going, fallen, left}
use Rattle.meta_format.proofs.Sound.{alive_early, broken_stopped}
use Rattle.meta_format.proofs.GoesOn.{sound_alive}
use Rattle.meta_format.proofs.Feeds.{made_stands}
use Rattle.meta_format.proofs.Flat.{further, byte_there, over_all, in_name, halt, tag_bad}

-- the byte at the limit

late : (most : Limits) (s : List ℕ) (start limit : ℕ) → IsLimit most s start limit → limit < length s → is_late most start limit ≡ true
late most s start limit is some = or_right _ _ (le-leb (most.block + start) (suc limit) (is.last some))

pub late_in_name : (most : Limits) (s : List ℕ) (start name levels limit : ℕ) → IsLimit most s start limit → limit < length s → AtTag most s start name levels → (so : NameUpTo most.tag s name limit)
    → is_bad_tag most.tag so.0 (get_or s limit 0) ≡ false → Breaks most s start limit too_long
late_in_name most s start name levels limit is some there so good =
    let short = is.short in
    let high = is.high in
    let early = is.early in
    halt most s start limit (tag_of start there.0 levels so.0) too_long some (in_name most s start name levels limit so short (omega arith) there)
    (cond-false _ _ _ good ∙ cond-true _ _ _ (late most s start limit is some))

pub bad_in_name : (most : Limits) (s : List ℕ) (start name levels limit : ℕ) → IsLimit most s start limit → limit < length s → AtTag most s start name levels → (so : NameUpTo most.tag s name limit)
    → is_bad_tag most.tag so.0 (get_or s limit 0) ≡ true → Breaks most s start limit bad_tag
bad_in_name most s start name levels limit is some there so bad =
    let high = is.high in
    let early = is.early in
    tag_bad most s start name levels limit so some bad is.short (omega arith) there

pub late_in_escape : (most : Limits) (s : List ℕ) (start limit d : ℕ) → IsLimit most s start limit → limit < length s → InEscape most s start limit d → Breaks most s start limit too_long
late_in_escape most s start limit d is some there =
    halt most s start limit (escape_of start there.0 d) too_long some there.1 (cond-true _ _ _ (late most s start limit is some))

pub late_in_body : (most : Limits) (s : List ℕ) (start limit d : ℕ) → IsLimit most s start limit → limit < length s → InBody most s start limit d
    → (get_or s limit 0 ≡ 2 → suc d < most.levels) → (get_or s limit 0 ≡ 5 → 0 < d) → Breaks most s start limit too_long
late_in_body most s start limit d is some there shallow inner =
    halt most s start limit (body_of start there.0 d) too_long some there.1 (by_byte (get_or s limit 0) shallow inner)
  where
    too_late : is_late most start limit ≡ true
    too_late = late most s start limit is some

    by_depth : (e : ℕ) → 0 < e → closing most limit start there.0 e ≡ halts too_long
    by_depth zero none = absurd (omega (arith, none))
    by_depth (suc e) some = cond-true _ _ _ too_late

    by_byte : (c : ℕ) → (c ≡ 2 → suc d < most.levels) → (c ≡ 5 → 0 < d) → after most limit (body_of start there.0 d) c ≡ halts too_long
    by_byte c shallow inner =
        cond_both (nat_eq c 2) (cond (nat_le most.levels (suc d)) (halts too_deep) (unless_late most start limit (tag_of start there.0 (suc d) [])))
        (cond (nat_eq c 5) (closing most limit start there.0 d) (unless_late most start limit (cond (nat_eq c 27) (escape_of start there.0 d) (body_of start (there.0 ++ letter c ∷ []) d))))
        (λ w. w ≡ halts too_long)
        (λ two. cond-false _ _ _ (lt-leb most.levels (suc d) (shallow (eqb-true c 2 two))) ∙ cond-true _ _ _ too_late)
        (λ other. cond_both (nat_eq c 5) (closing most limit start there.0 d) (unless_late most start limit (cond (nat_eq c 27) (escape_of start there.0 d) (body_of start (there.0 ++ letter c ∷ []) d)))
        (λ w. w ≡ halts too_long) (λ five. by_depth d (inner (eqb-true c 5 five))) (λ e. cond-true _ _ _ too_late))

-- an open tail

pub open_in_name : (most : Limits) (s : List ℕ) (start name levels : ℕ) → length s < most.block + start → length s ≤ most.stream → AtTag most s start name levels → NameUpTo most.tag s name (length s)
    → Finds most s start (seen.Open start)
open_in_name most s start name levels short early there so = (_, in_name most s start name levels (length s) so short early there, tt, refl)

-- the bytes of a block that is found spell it

no_bytes : (t : List ℕ) → length t ≡ 0 → t ≡ []
no_bytes [] h = refl
no_bytes (c ∷ t) h = absurd (omega arith)

starts_open : (a : ℕ) (q : State) (stop : ℕ) (b : Tree) → StartsAt a q.mode → q ≡ closed_at a stop b → ⊥
starts_open a q stop b h e = subst (λ p. StartsAt a p.mode) e h

going_ends : (most : Limits) (a : ℕ) (tail t : List ℕ) (q : State) (b : Tree) (stop : ℕ) → Going most a [] tail q → run most q t ≡ closed_at a stop b → a + length (tail ++ t) ≡ stop → IsOuter most a b (tail ++ t)
going_ends most a tail [] q b stop g ran size = absurd (starts_open a q stop b g.starts ran)
going_ends most a tail (c ∷ t) q b stop g ran size =
    by_after (λ p h r. going_ends most a (tail ++ c ∷ []) t p b stop h r (ap (λ x. a + length x) (append_assoc tail (c ∷ []) t) ∙ size)) (next most q c) (going_step most a [] tail c q g) ran
  where
    by_after : ((p : State) → Going most a [] (tail ++ c ∷ []) p → run most p t ≡ closed_at a stop b → IsOuter most a b ((tail ++ c ∷ []) ++ t))
        → (p : State) → After most a [] tail c p → run most p t ≡ closed_at a stop b → IsOuter most a b (tail ++ c ∷ t)
    by_after onward p (goes_on h right) r = subst (IsOuter most a b) (append_assoc tail (c ∷ []) t) (onward p h r)
    by_after onward p (breaks kind fault e) r =
        let stays = sym (run_broken most (a + length tail) (a + length tail) [] kind t) ∙ ap (λ x. run most x t) (sym e) ∙ r in
        absurd (subst (λ x. IsAlive x.mode) (sym stays) tt)
    by_after onward p (ends_there x outer shut right e) r =
        let end = a + length (tail ++ c ∷ []) in
        let found = sym (run-following most (block_at a end x ∷ []) (outside_at end) t) ∙ ap (λ z. run most z t) (sym e) ∙ r in
        let outs = ap (λ z. z.out) found in
        let same : block_at a end x ≡ block_at a stop b = cc in
        let stops : end ≡ stop = ap (λ z. z.stop) same in
        let longer = length-append tail (c ∷ t) in
        let long = length-append tail (c ∷ []) in
        let none = no_bytes t (omega arith) in
        subst (λ tree. IsOuter most a tree (tail ++ c ∷ t)) (ap (λ z. z.block) same) (subst (λ r. IsOuter most a x (tail ++ c ∷ r)) (sym none) outer)

first_of : (s more : List ℕ) (at c : ℕ) → at < length s → get_or s at 0 ≡ 2 → drop at s ≡ c ∷ more → c ≡ 2
first_of s more at c some two e =
    let both : get_or s at 0 ∷ drop (at + 1) s ≡ c ∷ more = sym (byte_there s at (get_or s at 0) some refl) ∙ e in
    let head : get_or s at 0 ≡ c = cc in
    sym head ∙ two

pub spelled_there : (most : Limits) → IsRoomy most → (s : List ℕ) (start stop : ℕ) (b : Tree) → start < length s → start < stop → stop ≤ length s → get_or s start 0 ≡ 2 → length s ≤ most.stream
    → Takes most s start stop (closed_at start stop b) → IsOuter most start b (part start stop s)
spelled_there most fit s start stop b some on within two early so = by_piece so.piece so.split so.ran
  where
    by_piece : (piece : List ℕ) → drop start s ≡ piece ++ drop stop s → run most (outside_at start) piece ≡ closed_at start stop b → IsOuter most start b (part start stop s)
    by_piece [] split ran = let no : [] ≡ block_at start stop b ∷ [] = ap (λ q. q.out) ran in cc
    by_piece (c ∷ t) split ran =
        let from = length-drop start s in
        let rest = length-drop stop s in
        let both = length-append (c ∷ t) (drop stop s) in
        let size : length (c ∷ t) ≡ stop - start = omega (arith, ap length split) in
        let is_two = first_of s (t ++ drop stop s) start c some two split in
        let same : part start stop s ≡ 2 ∷ t =
        ap (λ n. take n (drop start s)) (sym size) ∙ ap (take (length (c ∷ t))) split ∙ take-append_seam (c ∷ t) (drop stop s) ∙ ap (λ x. x ∷ t) is_two in
        let ran_two = ap (λ x. run most (next most (outside_at start) x) t) (sym is_two) ∙ ran in
        subst (IsOuter most start b) (sym same)
        (going_ends most start (2 ∷ []) t (next most (outside_at start) 2) b stop (first_byte most start [] fit (omega arith)) ran_two (omega arith))

-- noise before

pub noise_passed : (most : Limits) (s : List ℕ) (from n : ℕ) → from ≤ length s → n ≤ length (drop from s) → ((k : ℕ) → k < n → nat_eq (get_or (drop from s) k 0) 2 ≡ false) → length s ≤ most.stream
    → ComesTo most s from (from + n) outside
noise_passed most s from n within few silent early =
    record {
      piece = noise;
      split = sym (take-append-drop n (drop from s)) ∙ ap (λ r. noise ++ r) (drop-drop n from s);
      ran = ap (run most (outside_at from)) (sym (append-nil noise)) ∙ noise_run most [] noise from [] each (omega (arith, size, rest, within, few, early)) ∙ ap (λ k. outside_at (from + k)) size;
    }
  where
    noise : List ℕ
    noise = take n (drop from s)

    rest : length (drop from s) ≡ length s - from
    rest = length-drop from s

    size : length noise ≡ n
    size = length-take-le n (drop from s) few

    each : (k : ℕ) → k < length noise → nat_eq (get_or noise k 0) 2 ≡ false
    each k less = ap (λ c. nat_eq c 2) (get_or-take n (drop from s) k 0 (omega (arith, size, less))) ∙ silent k (omega (arith, size, less))

pub two_there : (s : List ℕ) (from n : ℕ) → (n < length (drop from s) → get_or (drop from s) n 0 ≡ 2) → from ≤ length s → from + n < length s → get_or s (from + n) 0 ≡ 2
two_there s from n two within some = let rest = length-drop from s in sym (get_or-drop from s n 0) ∙ two (omega (arith, rest, within, some))

pub after_noise : (most : Limits) (s : List ℕ) (from start : ℕ) (r : Seen) → ComesTo most s from start outside → Finds most s start r → Finds most s from r
after_noise most s from start (seen.Outer begin stop) so (b, took, outer) =
    (b, further most s from start (outside_at start) so stop (closed_at begin stop b) took.piece took.split took.ran, outer)
after_noise most s from start (seen.Open begin) so (mode, took, alive, is) =
    (mode, further most s from start (outside_at start) so (length s) record { at = length s; out = []; mode = mode } took.piece took.split took.ran, alive, is)
after_noise most s from start seen.End so took =
    further most s from start (outside_at start) so (length s) (outside_at (length s)) took.piece took.split took.ran
after_noise most s from start (seen.BadTag at) so fault = over_all most s from start (outside_at start) so ∙ fault
after_noise most s from start (seen.TooDeep at) so fault = over_all most s from start (outside_at start) so ∙ fault
after_noise most s from start (seen.TooLong at) so fault = over_all most s from start (outside_at start) so ∙ fault

-- the machine after a front that is read

after_front : (most : Limits) → IsRoomy most → (s : List ℕ) (from : ℕ) (blocks : List Outer) → IsReadTo most s from blocks → run most start_state (take from s) ≡ record { at = from; out = blocks; mode = outside }
after_front most fit s from blocks read =
    by_left alive (left most fit (take from s) blocks [] read.stream (alive_early most fit (take from s) alive))
  where
    alive : IsAlive (run most start_state (take from s)).mode
    alive = sound_alive most fit (take from s) read.sound

    by_left : IsAlive (run most start_state (take from s)).mode → Left most (take from s) blocks [] (run most start_state (take from s)) → run most start_state (take from s) ≡ record { at = from; out = blocks; mode = outside }
    by_left alive (clear before noise e chain silent none there) = there ∙ ap (λ n. record { at = n; out = blocks; mode = outside }) (length-take-le from s read.within)
    by_left alive (going before noise e chain silent g) = let no : [] ≡ 2 ∷ g.begins.0 = g.begins.1 in cc
    by_left alive (fallen br) = absurd (subst (λ p. IsAlive p.mode) br.2 alive)

more_run : (most : Limits) → IsRoomy most → (s : List ℕ) (from : ℕ) (blocks : List Outer) → IsReadTo most s from blocks → (piece : List ℕ) (at : ℕ) (out : List Outer) (mode : Mode)
    → run most (outside_at from) piece ≡ record { at = at; out = out; mode = mode } → run most start_state (take from s ++ piece) ≡ record { at = at; out = blocks ++ out; mode = mode }
more_run most fit s from blocks read piece at out mode ran =
    run-append most start_state (take from s) piece
    ∙ ap (λ q. run most q piece) (after_front most fit s from blocks read)
    ∙ ap (λ o. run most record { at = from; out = o; mode = outside } piece) (sym (append-nil blocks))
    ∙ run-following most blocks (outside_at from) piece
    ∙ ap (following blocks) ran

-- over the whole stream
all_run : (most : Limits) → IsRoomy most → (s : List ℕ) (from : ℕ) (blocks : List Outer) → IsReadTo most s from blocks → (at : ℕ) (mode : Mode)
    → run most (outside_at from) (drop from s) ≡ record { at = at; out = []; mode = mode } → run most start_state s ≡ record { at = at; out = blocks; mode = mode }
all_run most fit s from blocks read at mode ran =
    ap (run most start_state) (sym (take-append-drop from s)) ∙ more_run most fit s from blocks read (drop from s) at [] mode ran
    ∙ ap (λ o. record { at = at; out = o; mode = mode }) (append-nil blocks)

-- and what it makes of an end
ends_alive : (most : Limits) → IsRoomy most → (s : List ℕ) (from : ℕ) (blocks : List Outer) (mode : Mode) → IsReadTo most s from blocks → ComesTo most s from (length s) mode → IsAlive mode
    → ReaderHasRead most record { failed = false; offset = length s; pending = begun mode; mode = mode } s blocks
ends_alive most fit s from blocks mode read so alive =
    let here : State = record { at = length s; out = []; mode = mode } in
    made_stands most fit record { failed = false; offset = length s; pending = begun mode; mode = mode } s blocks
    (all_run most fit s from blocks read (length s) mode (over_all most s from (length s) here so ∙ ap (run most here) (drop_all (length s) s (omega arith)))) alive refl refl

ends_broken : (most : Limits) → IsRoomy most → (s : List ℕ) (from at : ℕ) (blocks : List Outer) (kind : Kind) → IsReadTo most s from blocks → Breaks most s from at kind → Faults most s at kind blocks
ends_broken most fit s from at blocks kind read fault =
    let stopped = broken_stopped most fit s at at blocks kind (all_run most fit s from blocks read at (broken kind at) fault) in
    record { first = stopped.first; front = stopped.front; rest = stopped.rest; is = stopped.is; at_is = stopped.at_is; tail = stopped.tail; stream = stopped.stream }

one_more_read : (most : Limits) → IsRoomy most → (s : List ℕ) (from start stop : ℕ) (blocks : List Outer) (b : Tree) → IsReadTo most s from blocks → stop ≤ length s → Takes most s from stop (closed_at start stop b)
    → IsReadTo most s stop (blocks ++ block_at start stop b ∷ [])
one_more_read most fit s from start stop blocks b read within so =
    record { within = within; stream = subst (Stream most (take stop s) more) none now.stream; sound = now.no_fault }
  where
    more : List Outer
    more = blocks ++ block_at start stop b ∷ []

    whole_front : (take from s ++ so.piece) ++ drop stop s ≡ s
    whole_front = append_assoc (take from s) so.piece (drop stop s) ∙ ap (λ r. take from s ++ r) (sym so.split) ∙ take-append-drop from s

    size : length (take from s ++ so.piece) ≡ stop
    size =
        let all = ap length whole_front in
        let split = length-append (take from s ++ so.piece) (drop stop s) in
        let rest = length-drop stop s in
        omega arith

    front : take from s ++ so.piece ≡ take stop s
    front =
        sym (take-append_seam (take from s ++ so.piece) (drop stop s)) ∙ ap (take (length (take from s ++ so.piece))) whole_front ∙ ap (λ n. take n s) size

    now : ReaderHasRead most record { failed = false; offset = stop; pending = None; mode = outside } (take stop s) more
    now =
        made_stands most fit record { failed = false; offset = stop; pending = None; mode = outside } (take stop s) more
        (ap (run most start_state) (sym front) ∙ more_run most fit s from blocks read so.piece stop (block_at start stop b ∷ []) outside so.ran) tt refl refl

    none : now.tail ≡ []
    none = now.pending

pub comes_next : (most : Limits) → IsRoomy most → (s : List ℕ) (from : ℕ) (blocks : List Outer) (r : Seen) → Finds most s from r → LiesAhead from (length s) r → IsReadTo most s from blocks → ComesNext most s blocks r
comes_next most fit s from blocks (seen.Outer start stop) (b, took, outer) ahead read = (b, one_more_read most fit s from start stop blocks b read ahead.2 took, outer)
comes_next most fit s from blocks (seen.Open start) (mode, took, alive, is) ahead read =
    let now = ends_alive most fit s from blocks mode read took alive in
    (now.tail, now.stream, now.no_fault, subst (IsPending s now.tail) is now.pending)
comes_next most fit s from blocks seen.End took ahead read =
    let now = ends_alive most fit s from blocks outside read took tt in
    (subst (Stream most s blocks) now.pending now.stream, now.no_fault)
comes_next most fit s from blocks (seen.BadTag at) fault ahead read = ends_broken most fit s from at blocks bad_tag read fault
comes_next most fit s from blocks (seen.TooDeep at) fault ahead read = ends_broken most fit s from at blocks too_deep read fault
comes_next most fit s from blocks (seen.TooLong at) fault ahead read = ends_broken most fit s from at blocks too_long read fault

pub starts_later : (from start to : ℕ) (r : Seen) → from ≤ start → LiesAhead start to r → LiesAhead from to r
starts_later from start to (seen.Outer begin stop) low h = let later = h.0 in (omega arith, h.1, h.2)
starts_later from start to (seen.Open begin) low h = let later = h.0 in (omega arith, h.1)
starts_later from start to seen.End low h = tt
starts_later from start to (seen.BadTag at) low h = tt
starts_later from start to (seen.TooDeep at) low h = tt
starts_later from start to (seen.TooLong at) low h = tt

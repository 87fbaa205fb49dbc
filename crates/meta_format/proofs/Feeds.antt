-- What a reader gives, by the laws of the machine.
use Rattle.std.proofs.Common.{◌≡◌, ℕ, ◌+◌, ◌<◌, false, List, [], ◌++◌, length, refl, sym, ap, ◌∙◌, subst, arith, append-nil, length-append, inl, inr, Some}
use Rattle.meta_format.specs.Limits.{Limits, IsRoomy, limits}
use Rattle.meta_format.specs.Stream.{Outer, Stream}
use Rattle.meta_format.specs.Faults.{Kind}
use Rattle.meta_format.specs.inside.Machine.{Mode, outside, tag_of, body_of, escape_of, broken, State, start_state, run, IsAlive, begun}
use Rattle.meta_format.specs.Reader.{ReaderView, ReaderHasRead, IsPending, Faults, CloseWithin}
use Rattle.meta_format.specs.inside.Scan.{mode_at, mode_of, scan_state}
use Rattle.meta_format.specs.Found.{outers}
use Rattle.meta_format.specs.declared.scan.Scanner.{Scanner}
use Rattle.meta_format.specs.declared.scan.Found.{Found}
use Rattle.meta_format.specs.declared.scan.Place.{Place}
use Rattle.meta_format.specs.declared.scan.Place.TheVariants as place
use Rattle.meta_format.specs.declared.level.Level.{Level}
use Rattle.meta_format.proofs.Spelled.{run-append}
use Rattle.meta_format.proofs.Unique.{following, run-following}
use Rattle.meta_format.proofs.Tails.{StartsAt}
use Rattle.meta_format.proofs.Reaching.{Reached, at_noise, at_tail, at_fault, reach, going_open}
use Rattle.meta_format.proofs.Sound.{alive_sound, broken_stopped}
use Rattle.meta_format.proofs.Order.{closes}

pub roomy : IsRoomy limits
roomy = record { levels = omega arith; block = omega arith }

pub mode_alive : (p : Place) (start : ℕ) (levels : List Level) (name : List ℕ) → IsAlive (mode_at p start levels name)
mode_alive place.Outside start levels name = tt
mode_alive place.Tag start levels name = tt
mode_alive place.Body start levels name = tt
mode_alive place.Escape start levels name = tt

pub alive_at : (most : Limits) → IsRoomy most → (s : List ℕ) → IsAlive (run most start_state s).mode → (run most start_state s).at ≡ length s
alive_at most fit s alive = let r = reach most fit s in by_reach r.0 r.1
  where
    by_reach : (blocks : List Outer) → Reached most s blocks (run most start_state s) → (run most start_state s).at ≡ length s
    by_reach blocks (at_noise before noise e chain silent there early) = ap (λ q. q.at) there
    by_reach blocks (at_tail before noise tail e chain silent g) =
        let long = length-append (before ++ noise) tail in
        g.at ∙ sym (ap length e ∙ long)
    by_reach blocks (at_fault front byte more tail kind e stream fault alive2 there) = absurd (subst (λ q. IsAlive q.mode) there alive)

-- the whole run
fed : (most : Limits) (k : ReaderView) (s piece : List ℕ) (blocks : List Outer) (q : State) → ReaderHasRead most k s blocks → run most record { at = k.offset; out = []; mode = k.mode } piece ≡ q
    → run most start_state (s ++ piece) ≡ following blocks q
fed most k s piece blocks q h e =
    run-append most start_state s piece
    ∙ ap (λ p. run most p piece) h.state
    ∙ ap (λ o. run most record { at = k.offset; out = o; mode = k.mode } piece) (sym (append-nil blocks))
    ∙ run-following most blocks record { at = k.offset; out = []; mode = k.mode } piece
    ∙ ap (following blocks) e

open_start : (mode : Mode) (a : ℕ) → StartsAt a mode → begun mode ≡ Some a
open_start outside a h = absurd h
open_start (tag_of start ms levels name) a h = ap Some h
open_start (body_of start ms d) a h = ap Some h
open_start (escape_of start ms d) a h = ap Some h
open_start (broken kind f) a h = absurd h

-- what the machine tells of a stream without a fault
pub made_stands : (most : Limits) → IsRoomy most → (k : ReaderView) (s : List ℕ) (blocks : List Outer) → run most start_state s ≡ record { at = k.offset; out = blocks; mode = k.mode } → IsAlive k.mode
    → k.failed ≡ false → k.pending ≡ begun k.mode → ReaderHasRead most k s blocks
made_stands most fit k s blocks ran alive works pending = let r = reach most fit s in by_reach r.0 r.1
  where
    here : IsAlive (run most start_state s).mode
    here = subst (λ q. IsAlive q.mode) (sym ran) alive

    at_is : k.offset ≡ length s
    at_is = sym (ap (λ q. q.at) ran) ∙ alive_at most fit s here

    by_reach : (others : List Outer) → Reached most s others (run most start_state s) → ReaderHasRead most k s blocks
    by_reach others (at_noise before noise e chain silent there early) =
        let made : Stream most s others [] = record { before = before; noise = noise; is = e ∙ sym (append-nil (before ++ noise)); chain = chain; silent = silent; rest = inl refl } in
        let same : others ≡ blocks = ap (λ q. q.out) (sym there ∙ ran) in
        record {
          works = works;
          offset = at_is;
          tail = [];
          stream = subst (λ o. Stream most s o []) same made;
          no_fault = alive_sound most fit s here;
          pending = subst (IsPending s []) (sym (pending ∙ ap begun (ap (λ q. q.mode) (sym ran ∙ there)))) refl;
          state = ran;
          alive = alive;
        }
    by_reach others (at_tail before noise tail e chain silent g) =
        let a = length (before ++ noise) in
        let split = length-append before noise in
        let made : Stream most s others tail = record { before = before; noise = noise; is = e; chain = chain; silent = silent; rest = inr (going_open most a others tail (run most start_state s) g) } in
        let same : others ≡ blocks = sym g.out_is ∙ ap (λ q. q.out) ran in
        let long = length-append (before ++ noise) tail in
        let some : 0 < length tail = omega (arith, ap length g.begins.1) in
        let size : a + length tail ≡ length s = sym (ap length e ∙ long) in
        let starts : k.pending ≡ Some a = pending ∙ ap begun (sym (ap (λ q. q.mode) ran)) ∙ open_start (run most start_state s).mode a g.starts in
        record {
          works = works;
          offset = at_is;
          tail = tail;
          stream = subst (λ o. Stream most s o tail) same made;
          no_fault = alive_sound most fit s here;
          pending = subst (IsPending s tail) (sym starts) (some, size);
          state = ran;
          alive = alive;
        }
    by_reach others (at_fault front byte more tail kind e stream fault alive2 there) = absurd (subst (λ q. IsAlive q.mode) there here)

pub fed_stands : (most : Limits) → IsRoomy most → (k : ReaderView) (s piece : List ℕ) (blocks : List Outer) (at : ℕ) (new : List Outer) (mode : Mode) → ReaderHasRead most k s blocks
    → run most record { at = k.offset; out = []; mode = k.mode } piece ≡ record { at = at; out = new; mode = mode }
    → (then : ReaderView) → IsAlive mode → then.failed ≡ false → then.offset ≡ at → then.mode ≡ mode → then.pending ≡ begun mode → ReaderHasRead most then (s ++ piece) (blocks ++ new)
fed_stands most fit k s piece blocks at new mode h ran then alive f o m p =
    made_stands most fit then (s ++ piece) (blocks ++ new)
    (fed most k s piece blocks record { at = at; out = new; mode = mode } h ran ∙ ap (λ n. record { at = n; out = blocks ++ new; mode = mode }) (sym o) ∙ ap (λ n. record { at = then.offset; out = blocks ++ new; mode = n }) (sym m))
    (subst IsAlive (sym m) alive) f (p ∙ ap begun (sym m))

pub fed_faults : (most : Limits) → IsRoomy most → (k : ReaderView) (s piece : List ℕ) (blocks : List Outer) (at f : ℕ) (new : List Outer) (kind : Kind) → ReaderHasRead most k s blocks
    → run most record { at = k.offset; out = []; mode = k.mode } piece ≡ record { at = at; out = new; mode = broken kind f } → Faults most (s ++ piece) f kind (blocks ++ new)
fed_faults most fit k s piece blocks at f new kind h ran =
    let stopped = broken_stopped most fit (s ++ piece) f at (blocks ++ new) kind (fed most k s piece blocks record { at = at; out = new; mode = broken kind f } h ran) in
    record { first = stopped.first; front = stopped.front; rest = stopped.rest; is = stopped.is; at_is = stopped.at_is; tail = stopped.tail; stream = stopped.stream }

-- a scan from where a reader stands
pub scan_start : (most : Limits) (scanner : Scanner) (k : ReaderView) (items : List Found) (piece : List ℕ) (q : State) → scanner.at ≡ k.offset → mode_of scanner ≡ k.mode → items ≡ []
    → run most (scan_state scanner (outers items)) piece ≡ q → run most record { at = k.offset; out = []; mode = k.mode } piece ≡ q
scan_start most scanner k items piece q e f g h =
    sym (ap (λ n. run most record { at = n; out = outers items; mode = mode_of scanner } piece) e
    ∙ ap (λ o. run most record { at = k.offset; out = outers o; mode = mode_of scanner } piece) g
    ∙ ap (λ m. run most record { at = k.offset; out = []; mode = m } piece) f) ∙ h

pub fed_closes : (most : Limits) (k : ReaderView) (s piece : List ℕ) (blocks : List Outer) (q : State) → ReaderHasRead most k s blocks → run most record { at = k.offset; out = []; mode = k.mode } piece ≡ q
    → CloseWithin (length s) (length (s ++ piece)) q.out
fed_closes most k s piece blocks q h e =
    let offset = h.offset in
    let whole = length-append s piece in
    subst (λ p. CloseWithin (length s) (length (s ++ piece)) p.out) e (closes most piece (length s) (length (s ++ piece)) k.offset k.mode (omega arith) (omega arith))

-- What more bytes do to a stream without a fault.
use Rattle.std.proofs.Common.{◌≡◌, ℕ, false, List, [], ◌++◌, length, refl, sym, ap, ◌∙◌, subst, ◌⊎◌, inl, inr}
use Rattle.meta_format.specs.Limits.{Limits, IsRoomy}
use Rattle.meta_format.specs.Stream.{Outer, Stream}
use Rattle.meta_format.specs.Faults.{Kind, IsSound, FaultAt}
use Rattle.meta_format.specs.Reader.{ReaderView, ReaderHasRead, Faults, CloseWithin}
use Rattle.meta_format.specs.inside.Machine.{Mode, outside, tag_of, body_of, escape_of, broken, State, start_state, run, IsAlive, begun}
use Rattle.meta_format.proofs.Reaching.{Reached, at_noise, at_tail, at_fault, reach, going_alive}
use Rattle.meta_format.proofs.Readable.{one_reading}
use Rattle.meta_format.proofs.Feeds.{made_stands, fed_stands, fed_faults, fed_closes}

abbrev pub GoesOn : Limits → List ℕ → List ℕ → List Outer → Type 0
GoesOn most s p blocks = (more : List Outer) × CloseWithin (length s) (length (s ++ p)) more
    × (((tail : List ℕ) × Stream most (s ++ p) (blocks ++ more) tail × IsSound most (s ++ p)) ⊎ ((at : ℕ) × (kind : Kind) × Faults most (s ++ p) at kind (blocks ++ more)))

pub sound_alive : (most : Limits) → IsRoomy most → (s : List ℕ) → IsSound most s → IsAlive (run most start_state s).mode
sound_alive most fit s sound = let r = reach most fit s in by_reach r.0 r.1
  where
    by_reach : (blocks : List Outer) → Reached most s blocks (run most start_state s) → IsAlive (run most start_state s).mode
    by_reach blocks (at_noise before noise e chain silent there early) = subst (λ (q : State). IsAlive q.mode) (sym there) tt
    by_reach blocks (at_tail before noise tail e chain silent g) = going_alive most tail (run most start_state s).mode g.shape
    by_reach blocks (at_fault front byte more tail kind e stream fault alive there) =
        let found : FaultAt most s (length front) kind = record { byte = byte; more = more; front = front; blocks = blocks; tail = tail; is = e; at_is = refl; stream = stream; fault = fault } in
        absurd (sound (length front) kind found)

alive_or : (m : Mode) → IsAlive m ⊎ ((kind : Kind) × (f : ℕ) × (m ≡ broken kind f))
alive_or outside = inl tt
alive_or (tag_of start ms levels name) = inl tt
alive_or (body_of start ms d) = inl tt
alive_or (escape_of start ms d) = inl tt
alive_or (broken kind f) = inr (kind, f, refl)

by_known : (most : Limits) → IsRoomy most → (k : ReaderView) (s p : List ℕ) (blocks : List Outer) → ReaderHasRead most k s blocks → (q : State) → run most record { at = k.offset; out = []; mode = k.mode } p ≡ q → GoesOn most s p blocks
by_known most fit k s p blocks h q e = go (alive_or q.mode)
  where
    go : (IsAlive q.mode ⊎ ((kind : Kind) × (f : ℕ) × (q.mode ≡ broken kind f))) → GoesOn most s p blocks
    go (inl alive) =
        let then : ReaderView = record { failed = false; offset = q.at; pending = begun q.mode; mode = q.mode } in
        let now : ReaderHasRead most then (s ++ p) (blocks ++ q.out) = fed_stands most fit k s p blocks q.at q.out q.mode h e then alive refl refl refl refl in
        (q.out, fed_closes most k s p blocks q h e, inl (now.tail, now.stream, now.no_fault))
    go (inr b) =
        (q.out, fed_closes most k s p blocks q h e, inr (b.1, b.0, fed_faults most fit k s p blocks q.at b.1 q.out b.0 h (e ∙ ap (λ (m : Mode). record { at = q.at; out = q.out; mode = m }) b.2)))

pub goes_on : (most : Limits) → IsRoomy most → (s p : List ℕ) (blocks : List Outer) (tail : List ℕ) → Stream most s blocks tail → IsSound most s → GoesOn most s p blocks
goes_on most fit s p blocks tail st sound = by_known most fit known s p blocks stands (run most record { at = known.offset; out = []; mode = known.mode } p) refl
  where
    q : State
    q = run most start_state s

    known : ReaderView
    known = record { failed = false; offset = (run most start_state s).at; pending = begun (run most start_state s).mode; mode = (run most start_state s).mode }

    first : ReaderHasRead most known s (run most start_state s).out
    first = made_stands most fit known s (run most start_state s).out refl (sound_alive most fit s sound) refl refl

    stands : ReaderHasRead most known s blocks
    stands = subst (λ (o : List Outer). ReaderHasRead most known s o) (one_reading most fit s (run most start_state s).out blocks first.tail tail first.stream st).0 first

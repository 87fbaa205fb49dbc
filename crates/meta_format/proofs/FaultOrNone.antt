-- Every stream has no fault, or a first one.
use Rattle.std.proofs.Common.{ℕ, List, length, sym, subst, ◌⊎◌, inl, inr}
use Rattle.meta_format.specs.Limits.{Limits, IsRoomy}
use Rattle.meta_format.specs.Stream.{Outer}
use Rattle.meta_format.specs.Faults.{Kind, IsSound}
use Rattle.meta_format.specs.Reader.{Faults}
use Rattle.meta_format.specs.inside.Machine.{start_state, run, IsAlive}
use Rattle.meta_format.proofs.Reaching.{Reached, at_noise, at_tail, at_fault, reach, going_alive}
use Rattle.meta_format.proofs.Sound.{alive_sound, broken_stopped}

pub fault_or_none : (most : Limits) → IsRoomy most → (s : List ℕ) → IsSound most s ⊎ ((at : ℕ) × (kind : Kind) × (blocks : List Outer) × Faults most s at kind blocks)
fault_or_none most fit s = let r = reach most fit s in by_reach r.0 r.1
  where
    by_reach : (blocks : List Outer) → Reached most s blocks (run most start_state s) → IsSound most s ⊎ ((at : ℕ) × (kind : Kind) × (blocks : List Outer) × Faults most s at kind blocks)
    by_reach blocks (at_noise before noise e chain silent there early) = inl (alive_sound most fit s (subst (λ q. IsAlive q.mode) (sym there) tt))
    by_reach blocks (at_tail before noise tail e chain silent g) = inl (alive_sound most fit s (going_alive most tail (run most start_state s).mode g.shape))
    by_reach blocks (at_fault front byte more tail kind e stream fault alive there) =
        let st = broken_stopped most fit s (length front) (length front) blocks kind there in
        inr (length front, kind, blocks, record { first = st.first; front = st.front; rest = st.rest; is = st.is; at_is = st.at_is; tail = st.tail; stream = st.stream })

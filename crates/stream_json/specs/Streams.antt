-- What a stream has, as a whole: its outer blocks, and how it ends. (docs/use/PROTOCOL.md, streams.)
use Rattle.std.specs.Prelude.{◌≡◌, ◌+◌, ◌<◌, ℕ, Bool, true, false, List, [], ◌++◌, length}
use Rattle.meta_format.specs.Limits.{Limits}
use Rattle.meta_format.specs.Stream.{Outer, Stream}
use Rattle.meta_format.specs.Faults.{Kind, FirstFault, IsSound}

-- how a stream ends: outside of all blocks, in an outer block that starts there, or at a fault of this kind, there
pub data StreamEnd : Type 0 where
  outside : StreamEnd
  inside : ℕ → StreamEnd
  broken : Kind → ℕ → StreamEnd

-- it has no fault, and no outer block is open at its end
abbrev pub is_whole : StreamEnd → Bool
is_whole outside = true
is_whole (inside start) = false
is_whole (broken kind at) = false

-- The stream has these outer blocks and this end. The blocks of one with a fault are those before it.
pub data StreamHas (most : Limits) (stream : List ℕ) (blocks : List Outer) : StreamEnd → Type 0 where
  whole : IsSound most stream → Stream most stream blocks [] → StreamHas most stream blocks outside
  unfinished : (tail : List ℕ) (start : ℕ) → IsSound most stream → Stream most stream blocks tail → 0 < length tail → start + length tail ≡ length stream → StreamHas most stream blocks (inside start)
  faulty : (kind : Kind) (at : ℕ) (front rest tail : List ℕ) → FirstFault most stream at kind → stream ≡ front ++ rest → at ≡ length front → Stream most front blocks tail → StreamHas most stream blocks (broken kind at)

-- What the relations of a live worksheet speak of: clocks and watches of sources, and in which manner lines come.
use Rattle.std.specs.Prelude.{ℕ, Bool, true, false, List, Option, None}
use Rattle.arrivals.specs.Watching.{Asked}
use Rattle.arrivals.specs.declared.sources.Woken.{Woken}
use Rattle.session_engine.specs.Host.{HostView}
use Rattle.live.specs.declared.manner.Manner.{Manner}

-- What a call leaves: the host and the sources after it, the interpreters among them, and all that was written, before it and after it.
pub record Left (C : Type 0) : Type 0 where
  pub host : HostView
  pub sources : C
  pub out : Option (List ℕ)
  pub now : Option (List ℕ)

abbrev pub left : {C : Type 0} → HostView → C → Option (List ℕ) → Option (List ℕ) → Left C
left host sources out now = record { host = host; sources = sources; out = out; now = now }

-- The relation of a clock: the sources, and what it may read while they stand so, in milliseconds.
abbrev pub Clock : Type 0 → Type 1
Clock C = C → ℕ → Type 0

-- The relation of a watch: the sources before it, what it was asked, what it returned, and the sources after it.
abbrev pub Watch : Type 0 → Type 1
Watch C = C → Asked → Option Woken → C → Type 0

-- What comes first is taken first.
abbrev pub as_it_comes : Manner
as_it_comes = record { lines_first = false; limit = None; strict = false }

-- While no wait holds lines back they come first, a wait that names no seconds may take so many, where there is a limit, and the input may be
-- a strict one.
abbrev pub line_by_line : Option ℕ → Bool → Manner
line_by_line limit strict = record { lines_first = true; limit = limit; strict = strict }

-- A wait that is taken life by life. (docs/dev/EDGE.md, "A faithful run".)
use Rattle.std.specs.Prelude.{◌≡◌, ℕ, ◌≤◌, ◌+◌, ◌-◌, ◌*◌, ◌^◌, List, ◌++◌, None, length, nat_lt}
use Rattle.session_engine.specs.World.{World}
use Rattle.child_edge.specs.declared.waiting.Waiting.{Waiting}
use Rattle.child_edge.specs.Limits.{most_rounds}
use Rattle.child_edge.specs.Seats.{waits}
use Rattle.child_edge.specs.Faithful.{Relation, At, Entry, FirstOf, Taken, Rounds, hearing}

-- The wait has not taken a life yet.
pub record IsBegun (wait : Waiting) (w : World) : Type 0 where
  pub whole : wait.whole ≡ 0
  pub place : wait.place ≡ 0
  pub seats : wait.seats.items ≡ waits w

-- The wait came so far, from here to there: whole rounds, and the first lives of the round that it is in.
pub record Came {C : Type 0} (R : Relation C) (wait : Waiting) (s : At C) (bs : List Entry) (t : At C) : Type 0 where
  pub mid : At C
  pub before : List Entry
  pub last : List Entry
  pub fits : wait.whole ≤ most_rounds
  pub place : wait.place ≤ length wait.seats.items
  pub seats : wait.seats.items ≡ waits mid.world
  pub rounds : Rounds R most_rounds wait.whole s before mid
  pub part : FirstOf (Taken (hearing R (nat_lt wait.whole most_rounds)) None) wait.seats.items wait.place mid last t
  pub entries : bs ≡ before ++ last

-- How many lives a wait may still take, and more: each step makes it less.
abbrev pub left_of : Waiting → ℕ
left_of wait = (most_rounds - wait.whole) * 2 ^ 64 + (length wait.seats.items - wait.place)

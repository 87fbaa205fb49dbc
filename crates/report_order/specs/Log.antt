-- A log that ops are put on: what its calls do, and what a crash at any moment may leave. It is a toy, and no part of the program.
use Rattle.std.specs.Prelude.{◌≡◌, ◌⊎◌, ℕ, List, [], ◌∷◌, ◌++◌, Result, MatchResult}
use Rattle.std.specs.List.{AllByRecursion}

-- The ops that outlive a crash, and those that were put since, of which it may leave some of the first.
pub record LogState : Type 0 where
  pub durable : List ℕ
  pub unsynced : List ℕ

-- The state now, and those of all earlier moments, the newest first.
pub record LogHistory : Type 0 where
  pub now : LogState
  pub past : List LogState

-- These ops are what a crash may leave of a state.
pub record MayRemain (s : LogState) (ops : List ℕ) : Type 0 where
  pub some : List ℕ
  pub rest : List ℕ
  pub split : s.unsynced ≡ some ++ rest
  pub is : ops ≡ s.durable ++ some

-- whatever a crash may leave of a state has P
abbrev pub LeavesAll : (List ℕ → Type 0) → LogState → Type 0
LeavesAll P s = (ops : List ℕ) → MayRemain s ops → P ops

-- At every moment since old, old's own among them, whatever a crash may leave has P.
pub record LeavesAlways (P : List ℕ → Type 0) (old new : LogHistory) : Type 0 where
  pub start : LeavesAll P old.now
  pub more : List LogState
  pub states : new.now ∷ new.past ≡ more ++ old.now ∷ old.past
  pub each : AllByRecursion (LeavesAll P) more

-- the state in which nothing waits for a sync
abbrev pub all_durable : List ℕ → LogState
all_durable ops = record { durable = ops; unsynced = [] }

-- a state with one op more, which waits for a sync
abbrev pub with_op : ℕ → LogState → LogState
with_op op s = record { durable = s.durable; unsynced = s.unsynced ++ op ∷ [] }

-- An op is put on the log, where a crash may leave it or not; so at every moment of the call, whatever it answers.
pub record Puts {T E : Type 0} (op : ℕ) (result : Result T E) (old new : LogHistory) : Type 0 where
  pub moments : LeavesAlways (λ ops. MayRemain old.now ops ⊎ MayRemain (with_op op old.now) ops) old new
  pub put : MatchResult result (λ _. new.now ≡ with_op op old.now) (λ _. Unit {0})

-- What was put becomes durable at Ok. A crash at any moment of the call leaves what it might have left before.
pub record MakesDurable {T E : Type 0} (result : Result T E) (old new : LogHistory) : Type 0 where
  pub moments : LeavesAlways (MayRemain old.now) old new
  pub durable : MatchResult result (λ _. new.now ≡ all_durable (old.now.durable ++ old.now.unsynced)) (λ _. Unit {0})

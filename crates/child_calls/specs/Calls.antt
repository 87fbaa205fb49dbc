-- Calls on children, and what they answer. A life is that of the session with this name which has this number.
use Rattle.std.specs.Prelude.{ℕ, List}

pub data Call : Type 0 where
  -- with the words of its program
  start : List ℕ → ℕ → List (List ℕ) → Call
  send : List ℕ → ℕ → List ℕ → Call
  receive : List ℕ → ℕ → Call
  -- by the signal SIGINT
  interrupt : List ℕ → ℕ → Call
  stop : List ℕ → ℕ → Call

pub data Answer : Type 0 where
  done : Answer
  fault : Answer
  piece : List ℕ → Answer
  end : Answer
  no_memory : Answer

-- Calls on the process of one life.
use Rattle.std.specs.Prelude.{ℕ, zero, suc, List, take, Result, Ok, Err}
use Rattle.child_calls.specs.Calls.{Answer, fault, piece, end}

pub data Deed : Type 0 where
  -- its input is given these bytes
  write : List ℕ → Deed
  -- its output is read once
  read : Deed
  -- it is killed, its pipes are closed, and it is waited for
  stop : Deed

-- what a read answered that put so many bytes at the front of this room: none is the end
abbrev pub was_read : {E : Type 0} → Result ℕ E → List ℕ → Answer
was_read (Ok zero) room = end
was_read (Ok (suc n)) room = piece (take (suc n) room)
was_read (Err e) room = fault

-- What a call answered.
use Rattle.std.specs.Prelude.{ℕ, ◌≤◌, List, length, Result, Ok, Err}
use Rattle.child_calls.specs.Calls.{Answer, done, fault, piece, end, no_memory}
use Rattle.child_calls.specs.declared.children.Received.{Received}
use Rattle.child_calls.specs.declared.children.Received.TheVariants as got
use Rattle.child_calls.specs.declared.children.ReceiveFault.{ReceiveFault}
use Rattle.child_calls.specs.declared.children.ReceiveFault.TheVariants as lost

-- what a start, a send, an interrupt or a stop answered
abbrev pub sent : {T E : Type 0} → Result T E → Answer
sent (Ok x) = done
sent (Err e) = fault

-- what a receive answered
abbrev pub received : Result Received ReceiveFault → Answer
received (Ok (got.Piece bytes)) = piece bytes
received (Ok got.End) = end
received (Err lost.Child) = fault
received (Err lost.OutOfMemory) = no_memory

-- the most bytes of one piece
abbrev pub longest_piece : ℕ
longest_piece = 65536

-- a piece has a byte at least
abbrev pub IsPiece : List ℕ → Type 0
IsPiece bytes = (1 ≤ length bytes) × (length bytes ≤ longest_piece)

-- what was received is a piece, or the end
abbrev pub HasSize : Received → Type 0
HasSize (got.Piece bytes) = IsPiece bytes
HasSize got.End = Unit {0}

-- Where an agenda of lines stands.
use Rattle.std.specs.Prelude.{ℕ, ◌+◌, true, List, [], Option, Some, None}
use Rattle.child_calls.specs.declared.seat.Seat.{Seat}
use Rattle.arrivals.specs.Lines.{InputLine}
use Rattle.arrivals.specs.Held.{Held, nothing_held, to_come}
use Rattle.arrivals.specs.declared.sources.Woken.{Woken}
use Rattle.live.specs.declared.holding.Hold.{Hold}
use Rattle.live.specs.declared.holding.Hold.TheVariants as hold
use Rattle.live.specs.declared.manner.Manner.{Manner}
use Rattle.line_agenda.specs.declared.by_lines.ByLines.{ByLines}
use Rattle.line_agenda.specs.declared.doing.Transaction.{Transaction}
use Rattle.line_agenda.specs.declared.doing.LineChoice.{LineChoice}
use Rattle.line_agenda.specs.declared.doing.Doing.{Doing}
use Rattle.line_agenda.specs.declared.doing.Doing.TheVariants as doing

pub record LinesAt : Type 0 where
  -- what was read of the input and isn't taken yet
  pub buffer : Held
  -- what reads of it will give, where that is known
  pub remaining : Option (List ℕ)
  -- how lines are taken
  pub manner : Manner
  -- how many were taken
  pub number : ℕ
  -- the wait that holds back the next one
  pub held : Hold
  -- what is being done
  pub doing : Doing
  -- whose turn it is, by a watch
  pub due : Option Woken
  -- the transaction that is open
  pub transaction : Option Transaction
  -- the lives that are still to be interrupted
  pub late : List Seat

-- the agenda, where this is known of its input
abbrev pub lines_stand : {R : Type 0} → (R → Option (List ℕ)) → ByLines R → LinesAt
lines_stand remaining a = record {
  buffer = a.lines.held;
  remaining = remaining a.lines.reader;
  manner = a.manner;
  number = a.number;
  held = a.held;
  doing = a.doing;
  due = a.due;
  transaction = a.transaction;
  late = a.late.items;
}

-- before the first line of this input is taken, in this manner
abbrev pub first_lines : Manner → Option (List ℕ) → LinesAt
first_lines manner stream = record {
  buffer = nothing_held;
  remaining = stream;
  manner = manner;
  number = 0;
  held = hold.Free;
  doing = doing.Nothing;
  due = None;
  transaction = None;
  late = [];
}

-- the number of the line after which a strict input stopped, by the wait and by how many lines were taken
abbrev pub stop_at : Hold → ℕ → Option ℕ
stop_at hold.Free number = None
stop_at hold.Wait number = None
stop_at (hold.Until end) number = None
stop_at (hold.Limited end) number = None
stop_at (hold.Warned end) number = None
stop_at hold.Stopped number = Some number

abbrev pub stopped_at : LinesAt → Option ℕ
stopped_at a = stop_at a.held a.number

-- the lines still to come, where the input is known
abbrev pub coming : LinesAt → Option (List InputLine)
coming a = to_come a.buffer a.remaining

-- what a watch returned is heeded
abbrev pub heeded : LinesAt → LinesAt
heeded a = record a { due = None }

-- this is done now
abbrev pub doing_now : LinesAt → Doing → LinesAt
doing_now a what = record a { doing = what }

-- this wait holds back the next line
abbrev pub holding : LinesAt → Hold → LinesAt
holding a held = record a { held = held }

-- these lives are still to be interrupted
abbrev pub with_late : LinesAt → List Seat → LinesAt
with_late a late = record a { late = late }

-- this life is interrupted, and these after it
abbrev pub warning : LinesAt → Seat → List Seat → LinesAt
warning a seat rest = record a { late = rest; doing = doing.Warning seat }

-- more lines were given, and this of the input is left
abbrev pub given_to : LinesAt → Held → LinesAt
given_to a k = record a { buffer = k }

-- more was read
abbrev pub read_to : LinesAt → Held → Option (List ℕ) → LinesAt
read_to a k remaining = record a { buffer = k; remaining = remaining }

-- one line more was taken, for which there was no memory: a transaction that was open is forgotten
abbrev pub counted : LinesAt → LinesAt
counted a = record a { number = a.number + 1; transaction = None }

-- a line was taken, and this was chosen for it
abbrev pub after_line : LinesAt → LineChoice → LinesAt
after_line a c = record a { number = a.number + 1; held = c.held; doing = c.doing; transaction = c.transaction }

-- this transaction is open
abbrev pub with_transaction : LinesAt → Option Transaction → LinesAt
with_transaction a b = record a { transaction = b }

-- the input ended in a transaction, which goes wrong
abbrev pub after_end : LinesAt → LinesAt
after_end a = record a { doing = doing.Line true; transaction = None }

-- so many lines were taken as one group
abbrev pub after_group : LinesAt → ℕ → LinesAt
after_group a count = record a { number = a.number + count; doing = doing.Commands }

-- The parts of a payload, read from left to right. No public clause speaks of it.
use Rattle.std.specs.Prelude.{◌≡◌, ℕ, zero, suc, ◌==◌, List, [], ◌∷◌, length, take, drop, Option, Some, None, Result, Ok, Err, nat_lt, if◌then◌else◌}
use Rattle.std.specs.Int.{w16, w32, from_be_bytes}
use Rattle.block_tree.specs.declared.reason.Reason.{Reason}
use Rattle.block_tree.specs.declared.reason.Reason.TheVariants as reason
use Rattle.worksheet.specs.declared.op.Op.{Op}
use Rattle.worksheet.specs.declared.op.Op.TheVariants as op
use Rattle.recovery.specs.declared.reading.DecodeFault.{DecodeFault}
use Rattle.recovery.specs.declared.reading.DecodeFault.TheVariants as faults

infixl 10 ◌>>=◌
abbrev pub ◌>>=◌ : {A B : Type 0} → Option A → (A → Option B) → Option B
(Some x) >>= f = f x
None >>= f = None

-- what a function found, seen by view, is what reading gives
abbrev pub ReadsPart : {X Y : Type 0} → (X → Y) → Option X → Option Y → Type 0
ReadsPart view (Some x) read = read ≡ Some (view x)
ReadsPart view None read = read ≡ None

abbrev pub Fails : {Y : Type 0} → DecodeFault → Option Y → Type 0
Fails faults.OutOfMemory read = Unit {0}
Fails faults.Unreadable read = read ≡ None

-- the same, unless memory ran out
abbrev pub ReadsOrFails : {X Y : Type 0} → (X → Y) → Result X DecodeFault → Option Y → Type 0
ReadsOrFails view (Ok x) read = read ≡ Some (view x)
ReadsOrFails view (Err e) read = Fails e read

-- so many bytes, and what follows them
abbrev pub front_at : ℕ → List ℕ → Option (List ℕ × List ℕ)
front_at n bytes = if nat_lt (length bytes) n then None else Some (take n bytes, drop n bytes)

unfoldable pub number_at : List ℕ → Option (ℕ × List ℕ)
number_at bytes = do
  n ← front_at 4 bytes
  Some (from_be_bytes w32 n.0, n.1)

unfoldable pub short_at : List ℕ → Option (List ℕ × List ℕ)
short_at [] = None
short_at (n ∷ rest) = front_at n rest

unfoldable pub long_at : List ℕ → Option (List ℕ × List ℕ)
long_at bytes = do
  n ← front_at 2 bytes
  front_at (from_be_bytes w16 n.0) n.1

-- what was read, where nothing follows it
abbrev pub alone : {X : Type 0} → X → List ℕ → Option X
alone x [] = Some x
alone x (b ∷ rest) = None

unfoldable pub last_number_at : List ℕ → Option ℕ
last_number_at bytes = do
  n ← number_at bytes
  alone n.0 n.1

unfoldable pub last_long_at : List ℕ → Option (List ℕ)
last_long_at bytes = do
  text ← long_at bytes
  alone text.0 text.1

unfoldable pub words_at : ℕ → List ℕ → Option (List (List ℕ))
words_at zero bytes = Some []
words_at (suc n) bytes = do
  first ← long_at bytes
  others ← words_at n first.1
  Some (first.0 ∷ others)

abbrev pub session_after : List ℕ → List ℕ → Option Op
session_after name [] = None
session_after name (tab ∷ []) = None
session_after name (tab ∷ count ∷ rest) = do
  words ← words_at count rest
  Some (op.Session name (tab == 1) words)

unfoldable pub session_at : List ℕ → Option Op
session_at bytes = do
  name ← short_at bytes
  session_after name.0 name.1

unfoldable pub new_at : List ℕ → Option Op
new_at bytes = do
  after ← number_at bytes
  session ← short_at after.1
  input ← last_long_at session.1
  Some (op.New after.0 session.0 input)

unfoldable pub set_at : List ℕ → Option Op
set_at bytes = do
  id ← number_at bytes
  input ← last_long_at id.1
  Some (op.Set id.0 input)

unfoldable pub remove_at : List ℕ → Option Op
remove_at bytes = do
  id ← last_number_at bytes
  Some (op.Remove id)

unfoldable pub move_at : List ℕ → Option Op
move_at bytes = do
  id ← number_at bytes
  after ← last_number_at id.1
  Some (op.Move id.0 after)

unfoldable pub clear_at : List ℕ → Option Op
clear_at bytes = do
  id ← last_number_at bytes
  Some (op.Clear id)

-- the reason with this number
abbrev pub reason_with : ℕ → Option Reason
reason_with n =
    if n == 1 then Some reason.StartRefused else if n == 2 then Some reason.Ended else if n == 3 then Some reason.ReadFault
    else if n == 4 then Some reason.SendFault else if n == 5 then Some reason.Stalled else if n == 6 then Some reason.BadTag
    else if n == 7 then Some reason.TooDeep else if n == 8 then Some reason.TooLong else if n == 9 then Some reason.Stopped
    else None

-- that with the one byte that there is
abbrev pub reason_at : List ℕ → Option Reason
reason_at [] = None
reason_at (n ∷ []) = reason_with n
reason_at (n ∷ b ∷ rest) = None

unfoldable pub lost_at : List ℕ → Option Op
lost_at bytes = do
  id ← number_at bytes
  reason ← reason_at id.1
  Some (op.Lost id.0 reason)

unfoldable pub ids_at : List ℕ → Option Op
ids_at bytes = do
  next ← last_number_at bytes
  Some (op.Ids next)

-- of an answer: the number and the prompt, and the bytes of the output
unfoldable pub asked_at : List ℕ → Option ((ℕ × List ℕ) × List ℕ)
asked_at bytes = do
  id ← number_at bytes
  prompt ← long_at id.1
  Some ((id.0, prompt.0), prompt.1)

-- a function found this op, unless memory ran out
abbrev pub FindsOp : Op → Result Op DecodeFault → Type 0
FindsOp o (Ok found) = found ≡ o
FindsOp o (Err faults.OutOfMemory) = Unit {0}
FindsOp o (Err faults.Unreadable) = ⊥

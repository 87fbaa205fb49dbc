-- What is asked for of the lines that come next.
use Rattle.std.specs.Prelude.{◌≡◌, ◌⊎◌, ℕ, ◌+◌, ◌≤◌, true, false, List, [], ◌∷◌, ◌++◌, Option, Some, None, Result, Ok, Err, length, map}
use Rattle.std.specs.List.{AllByRecursion}
use Rattle.session_engine.specs.World.{World}
use Rattle.arrivals.specs.Lines.{InputLine, whole}
use Rattle.arrivals.specs.Held.{Held, KeepsLines, Readiness, left_with, to_come}
use Rattle.offline_programs.specs.declared.fault.RunFault.{RunFault}
use Rattle.offline_programs.specs.declared.fault.RunFault.TheVariants as fault
use Rattle.live.specs.LineEvents.{lines_events}
use Rattle.driver.specs.Steps.{most_together}
use Rattle.tellings.specs.declared.note.Note.TheVariants as note
use Rattle.live.specs.declared.live_line.LiveLine.{LiveLine}
use Rattle.live.specs.Saying.{IsCommand, SaysGrouped}
use Rattle.live.specs.Arrivals.{said_by}
use Rattle.driver.specs.declared.report.Show.TheVariants as show
use Rattle.driver.specs.declared.action.Action.{Action}
use Rattle.driver.specs.declared.action.Action.TheVariants as action
use Rattle.line_agenda.specs.declared.doing.Transaction.{Transaction}
use Rattle.line_agenda.specs.declared.doing.LineChoice.{LineChoice}
use Rattle.line_agenda.specs.LinesAt.{LinesAt, after_end, after_group, after_line, counted, given_to, read_to}
use Rattle.line_agenda.specs.Transactions.{asked_in}
use Rattle.line_agenda.specs.Alone.{AsksAlone, AsksLines}

-- These lines come next, whatever reads give later, and those of the other are left then.
abbrev pub ComeNext : List InputLine → Held → Held → Type 0
ComeNext lines h k = (more : List ℕ) → left_with h more ≡ lines ++ left_with k more

-- what the next line asks for, in the transaction that is open or where none is
abbrev pub AsksIn : Option Transaction → LinesAt → World → ℕ → Option LiveLine → LineChoice → Type 0
AsksIn None a w now l c = AsksAlone a.manner (a.number + 1) w now l c
AsksIn (Some b) a w now l c = c ≡ asked_in b (a.number + 1) l

-- A line that says this was taken, and this is asked for.
abbrev pub TakesAlone : LinesAt → World → ℕ → Option LiveLine → Action → LinesAt → Type 0
TakesAlone a w now l t b = (c : LineChoice) × AsksIn a.transaction a w now l c × (t ≡ c.action) × (b ≡ after_line a c)

-- A line was taken, or there was no memory for the command that it says.
abbrev pub TakesGivenLine : LinesAt → World → ℕ → Option LiveLine → Result Action RunFault → LinesAt → Type 0
TakesGivenLine a w now l (Ok t) b = TakesAlone a w now l t b
TakesGivenLine a w now l (Err why) b = (why ≡ fault.OutOfMemory) × IsCommand l × (b ≡ counted a)

-- More of the input was read, or it couldn't be: no line is lost.
abbrev pub ReadsOn : LinesAt → Result Action RunFault → LinesAt → Type 0
ReadsOn a r b =
    (k : Held) × (remaining : Option (List ℕ)) × (b ≡ read_to a k remaining) × KeepsLines (to_come a.buffer a.remaining) (to_come k remaining)
    × ((r ≡ Ok action.Nothing) ⊎ (r ≡ Err fault.Input))

-- The input is at its end. Where it ends in a transaction, nothing of that is done, which is noted first.
abbrev pub EndsInput : Option Transaction → LinesAt → Action → LinesAt → Type 0
EndsInput None a t b = (t ≡ action.End) × (b ≡ a)
EndsInput (Some transaction) a t b = (t ≡ action.Show (show.Note (note.Undone transaction.first a.number))) × (b ≡ after_end a)

-- What is asked for of the input, or why nothing is, and where the agenda stands then.
pub data TakesInput (a : LinesAt) (w : World) (now : ℕ) (r : Result Action RunFault) (b : LinesAt) : Type 0 where
  -- Lines that are there together, of which each says a command other than `checkpoint`. A strict input takes its lines one by one, and so are those
  -- of a transaction taken.
  together : (given : List (List ℕ)) (k : Held) (t : Action) → a.manner.strict ≡ false → a.transaction ≡ None → AllByRecursion SaysGrouped given → 1 ≤ length given
      → length given ≤ most_together → Readiness a.buffer true → ComeNext (map whole given) a.buffer k → r ≡ Ok t
      → AsksLines (a.number + 1) (lines_events given) t → b ≡ after_group (given_to a k) (length given) → TakesInput a w now r b
  -- the next line by itself
  alone : (l : InputLine) (k : Held) → Readiness a.buffer true → ComeNext (l ∷ []) a.buffer k → TakesGivenLine (given_to a k) w now (said_by l) r b → TakesInput a w now r b
  -- No line is there, and more is read.
  reads_on : (k : Held) → Readiness a.buffer false → ((more : List ℕ) → left_with k more ≡ left_with a.buffer more) → ReadsOn (given_to a k) r b → TakesInput a w now r b
  -- the end of the input
  ended : (k : Held) (t : Action) → Readiness a.buffer true → ((more : List ℕ) → (left_with a.buffer more ≡ []) × (left_with k more ≡ [])) → r ≡ Ok t → EndsInput a.transaction (given_to a k) t b
      → TakesInput a w now r b

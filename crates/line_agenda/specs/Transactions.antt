-- What the lines of a transaction ask for, from `begin` to `end`: commands that are taken all or not at all. (docs/use/SCRIPT.md, "Live".)
use Rattle.std.specs.Prelude.{ℕ, ◌-◌, ◌&&◌, not, Bool, true, false, List, [], ◌∷◌, ◌++◌, Option, Some, None, cond, length, nat_lt}
use Rattle.host_events.specs.declared.event.Event.{Event}
use Rattle.host_events.specs.declared.event.Event.TheVariants as event
use Rattle.session_engine.specs.Whole.{is_edit}
use Rattle.tellings.specs.declared.note.Note.{Note}
use Rattle.tellings.specs.declared.note.Note.TheVariants as note
use Rattle.sheet_text.specs.declared.script.ScriptLine.TheVariants as line
use Rattle.live.specs.declared.live_line.LiveLine.{LiveLine}
use Rattle.live.specs.declared.live_line.LiveLine.TheVariants as live
use Rattle.live.specs.declared.holding.Hold.TheVariants as hold
use Rattle.driver.specs.Steps.{most_together}
use Rattle.driver.specs.declared.report.Show.TheVariants as show
use Rattle.driver.specs.declared.action.Action.{Action}
use Rattle.driver.specs.declared.action.Action.TheVariants as action
use Rattle.line_agenda.specs.declared.doing.Transaction.{Transaction}
use Rattle.line_agenda.specs.declared.doing.LineChoice.{LineChoice}
use Rattle.line_agenda.specs.declared.doing.Doing.{Doing}
use Rattle.line_agenda.specs.declared.doing.Doing.TheVariants as doing

-- the line with this number begins a transaction, which has no command yet
abbrev pub new_transaction : ℕ → Transaction
new_transaction first = record { first = first; edits = []; broken = false }

-- with this command after the others
abbrev pub with_edit : Transaction → Event → Transaction
with_edit b e = record b { edits = b.edits ++ e ∷ [] }

-- with a line in it that can't stand there
abbrev pub broken_transaction : Transaction → Transaction
broken_transaction b = record b { broken = true }

-- this is asked for of a line, and this transaction is open then
abbrev pub in_transaction : Action → Doing → Option Transaction → LineChoice
in_transaction asked done b = record { action = asked; doing = done; held = hold.Free; transaction = b }

-- a line of which nothing is said or done
abbrev pub in_silence : Transaction → LineChoice
in_silence b = in_transaction action.Nothing doing.Nothing (Some b)

-- a line that can't stand in a transaction is a bad one, and breaks it
abbrev pub first_bad : Transaction → ℕ → LineChoice
first_bad b number = in_transaction (action.Show (show.Note (note.Bad number))) (doing.Line true) (Some (broken_transaction b))

-- of those after it nothing is said
abbrev pub breaks_transaction : Transaction → ℕ → LineChoice
breaks_transaction b number = cond b.broken (in_silence b) (first_bad b number)

-- A command is kept where it only changes the worksheet, the transaction isn't broken, and it has fewer than 1,024.
abbrev pub keeps_command : Transaction → ℕ → Event → LineChoice
keeps_command b number e = cond (not b.broken && (is_edit e && nat_lt (length b.edits) most_together)) (in_silence (with_edit b e)) (breaks_transaction b number)

-- What the end of a transaction asks for, by whether it is broken, by its commands, and by the numbers of its first and its last line. Commands are taken by
-- the numbers of their lines, which are those directly before the last. Of a broken transaction nothing is done.
abbrev pub ends_transaction : Bool → List Event → ℕ → ℕ → LineChoice
ends_transaction true edits first last = in_transaction (action.Show (show.Note (note.Undone first last))) (doing.Line false) None
ends_transaction false [] first last = in_transaction (action.Show (show.Note (note.Nothing last))) (doing.Line false) None
ends_transaction false (e ∷ edits) first last = in_transaction (action.Transaction (last - length (e ∷ edits)) (e ∷ edits)) (doing.Transaction first) None

-- what the line with this number asks for in a transaction
abbrev pub asked_in : Transaction → ℕ → Option LiveLine → LineChoice
asked_in b number None = breaks_transaction b number
asked_in b number (Some (live.Script line.Skip)) = breaks_transaction b number
asked_in b number (Some (live.Script (line.Command command))) = keeps_command b number (event.Command command)
asked_in b number (Some (live.Script line.Wait)) = breaks_transaction b number
asked_in b number (Some (live.Script line.Print)) = breaks_transaction b number
asked_in b number (Some (live.PrintField id)) = breaks_transaction b number
asked_in b number (Some (live.WaitFor seconds)) = breaks_transaction b number
asked_in b number (Some (live.Interrupt name)) = breaks_transaction b number
asked_in b number (Some (live.Export format)) = breaks_transaction b number
asked_in b number (Some live.Begin) = breaks_transaction b number
asked_in b number (Some live.End) = ends_transaction b.broken b.edits b.first number

-- What is noted at the end of a transaction that was to be taken, from this line to that one: that it was, or, where a command of it was refused, that
-- nothing of it was done.
abbrev pub transaction_note : ℕ → ℕ → Bool → Note
transaction_note first last true = note.Undone first last
transaction_note first last false = note.Nothing last

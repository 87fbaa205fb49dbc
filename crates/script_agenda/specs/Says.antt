-- What an agenda of a script says is next. (docs/use/SCRIPT.md; docs/dev/EDGE.md, "A faithful run".)
use Rattle.std.specs.Prelude.{◌≡◌, ◌⊎◌, ℕ, ◌+◌, ◌-◌, ◌^◌, ◌≤◌, ◌<◌, ◌&&◌, Bool, true, false, List, [], ◌∷◌, Option, Some, None, Result, Ok, Err, length, nat_lt}
use Rattle.host_events.specs.declared.command.Command.{Command}
use Rattle.host_events.specs.declared.event.Event.{Event}
use Rattle.host_events.specs.declared.event.Event.TheVariants as event
use Rattle.session_engine.specs.World.{World}
use Rattle.child_calls.specs.declared.seat.Seat.{Seat}
use Rattle.child_edge.specs.Limits.{most_rounds}
use Rattle.child_edge.specs.Seats.{waits}
use Rattle.sheet_text.specs.Script.{line_of}
use Rattle.sheet_text.specs.declared.script.ScriptLine.{ScriptLine}
use Rattle.sheet_text.specs.declared.script.ScriptLine.TheVariants as line
use Rattle.tellings.specs.declared.note.Note.TheVariants as note
use Rattle.offline_programs.specs.declared.fault.RunFault.{RunFault}
use Rattle.offline_programs.specs.declared.fault.RunFault.TheVariants as fault
use Rattle.driver.specs.Items.{stalls}
use Rattle.driver.specs.declared.report.Show.TheVariants as show
use Rattle.driver.specs.declared.action.Action.{Action}
use Rattle.driver.specs.declared.action.Action.TheVariants as action
use Rattle.script_agenda.specs.Gathering.{Gathers, most_commands}
use Rattle.script_agenda.specs.ScriptAt.{ScriptAt, after_one_line, gone_wrong, waiting, with_round}

-- What is asked for of a life in the round with this number: the first 100,000 listen, and in the one after them it has stalled.
abbrev pub heard_in : Bool → Seat → Action
heard_in true seat = action.Receive seat
heard_in false seat = action.Alone (stalls seat)

abbrev pub asks_life : ℕ → Seat → Action
asks_life rounds seat = heard_in (nat_lt rounds (most_rounds + 1)) seat

-- What is next in a wait, of which so many rounds were begun: the next life of the round; or where there is none the first life of another round; or it is
-- over, since no item waits or all have stalled.
pub data WaitSays (a : ScriptAt) (w : World) (rounds : ℕ) (r : Result Action RunFault) (b : ScriptAt) : Type 0 where
  next_life : (seat : Seat) (rest : List Seat) → a.round ≡ seat ∷ rest → r ≡ Ok (asks_life rounds seat) → b ≡ with_round a rest → WaitSays a w rounds r b
  next_round : (seat : Seat) (rest : List Seat) → a.round ≡ [] → rounds ≤ most_rounds → waits w ≡ seat ∷ rest → r ≡ Ok (asks_life (rounds + 1) seat)
      → b ≡ with_round (waiting a (Some (rounds + 1))) rest → WaitSays a w rounds r b
  wait_over : a.round ≡ [] → (waits w ≡ []) ⊎ (most_rounds + 1 ≤ rounds) → r ≡ Ok action.Nothing → b ≡ waiting a None → WaitSays a w rounds r b
  -- there was no memory for the list of lives
  unlisted : r ≡ Err fault.OutOfMemory → b ≡ a → WaitSays a w rounds r b

-- What the line that was taken last asks for. A line that isn't known goes wrong.
abbrev pub LineAsks : Option ScriptLine → ScriptAt → Action → ScriptAt → Type 0
LineAsks None a t b = (t ≡ action.Show (show.Note (note.Bad a.number))) × (b ≡ gone_wrong a)
LineAsks (Some line.Skip) a t b = (t ≡ action.Nothing) × (b ≡ a)
LineAsks (Some (line.Command c)) a t b = (t ≡ action.Alone (event.Command c)) × (b ≡ a)
LineAsks (Some line.Wait) a t b = (t ≡ action.Nothing) × (b ≡ waiting a (Some 0))
LineAsks (Some line.Print) a t b = (t ≡ action.Show (show.Sheet a.number)) × (b ≡ a)

-- That, or there was no memory for the command that it says.
abbrev pub TakesOneLine : Option ScriptLine → ScriptAt → Result Action RunFault → ScriptAt → Type 0
TakesOneLine l a (Ok t) b = LineAsks l a t b
TakesOneLine l a (Err why) b = (why ≡ fault.OutOfMemory) × ((c : Command) × (l ≡ Some (line.Command c))) × (b ≡ a)

-- The next lines that may be in a group were taken: what is asked for is that their commands are, where they have one.
pub record TakesGroup (a : ScriptAt) (r : Result Action RunFault) (b : ScriptAt) : Type 0 where
  pub events : List Event
  pub rest : List (List ℕ)
  pub number : ℕ
  pub gathers : Gathers a.strict a.lines rest events
  pub some : 1 ≤ length events
  pub few : length events ≤ most_commands
  pub count : number + length rest ≡ a.number + length a.lines
  pub asks : r ≡ Ok (action.Edits a.strict events)
  pub stands : b ≡ record a { lines = rest; number = number; group = length events; wrong = false }

-- What is next where no wait holds the lines back.
pub data SaysOfLines (a : ScriptAt) (r : Result Action RunFault) (b : ScriptAt) : Type 0 where
  at_end : a.lines ≡ [] → r ≡ Ok action.End → b ≡ a → SaysOfLines a r b
  -- in a strict script the last line went wrong
  stopped : (a.strict && a.wrong) ≡ true → r ≡ Ok action.End → b ≡ a → SaysOfLines a r b
  -- so many lines were taken that one more can't be counted
  uncounted : 2 ^ 64 ≤ a.number + 1 → r ≡ Err fault.InputTooLong → b ≡ a → SaysOfLines a r b
  as_group : (a.strict && a.wrong) ≡ false → TakesGroup a r b → SaysOfLines a r b
  -- Lines that are skipped were passed over, one at least.
  skips : (rest : List (List ℕ)) (number : ℕ) → (a.strict && a.wrong) ≡ false → Gathers a.strict a.lines rest [] → a.number < number → number + length rest ≡ a.number + length a.lines
      → r ≡ Ok action.Nothing → b ≡ record a { lines = rest; number = number; wrong = false } → SaysOfLines a r b
  by_itself : (line : List ℕ) (rest : List (List ℕ)) → (a.strict && a.wrong) ≡ false → a.lines ≡ line ∷ rest → TakesOneLine (line_of line) (after_one_line a rest) r b → SaysOfLines a r b

-- what is next
abbrev pub SaysIn : Option ℕ → ScriptAt → World → Result Action RunFault → ScriptAt → Type 0
SaysIn None a w r b = SaysOfLines a r b
SaysIn (Some rounds) a w r b = WaitSays a w rounds r b

abbrev pub ScriptSays : ScriptAt → World → ℕ → Result Action RunFault → ScriptAt → Type 0
ScriptSays a w now r b = SaysIn a.wait a w r b

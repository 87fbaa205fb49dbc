-- How the program `run` ends, in words and without a limit of time: which scripts are taken line by line, as `live` takes them, and which as a script.
use Rattle.std.specs.Prelude.{◌≡◌, ◌<◌, ◌≤◌, ℕ, Bool, true, false, List, Option, Some, None, Err, IfSome, length}
use Rattle.std.specs.Bool.{MatchBool}
use Rattle.std.specs.List.{list_any}
use Rattle.disk_model.specs.Disk.{DiskView, SameDisk}
use Rattle.live.specs.LiveLines.{live_line_of}
use Rattle.live.specs.Records.{line_by_line}
use Rattle.live.specs.declared.live_line.LiveLine.{LiveLine}
use Rattle.live.specs.declared.live_line.LiveLine.TheVariants as live
use Rattle.offline_programs.specs.Input.{IsInputFault, longest_standard_input}
use Rattle.offline_programs.specs.Memory.{script_lines}
use Rattle.offline_programs.specs.Saying.{Saying}
use Rattle.offline_programs.specs.declared.fault.RunFault.{RunFault}
use Rattle.offline_programs.specs.declared.fault.RunFault.TheVariants as fault
use Rattle.script_agenda.specs.Run.{RanScript, running_rules}
use Rattle.tellings.specs.Words.{in_words}
use Rattle.program_endings.specs.Ending.{EndsAs}
use Rattle.program_endings.specs.LiveProgram.{LiveEnded, LiveSetting, live_setting}
use Rattle.program_endings.specs.Records.{DoesNothing, ProgramPassage, ProgramRun, outside_after, outside_before, run_on, view_given}
use Rattle.program_endings.specs.StrictProgram.{StrictAnswer, TellsStop, strict_status}
use Rattle.program_endings.specs.declared.ending.Ending.{Ending}

-- a line of a form that `live` has and a script doesn't: `print ID`, `wait SECONDS`, `interrupt NAME`, `export FORMAT`, `begin` or
-- `end`
abbrev pub is_form : Option LiveLine → Bool
is_form None = false
is_form (Some (live.Script said)) = false
is_form (Some (live.PrintField id)) = true
is_form (Some (live.WaitFor seconds)) = true
is_form (Some (live.Interrupt name)) = true
is_form (Some (live.Export format)) = true
is_form (Some live.Begin) = true
is_form (Some live.End) = true

-- the line has such a form
abbrev pub says_form : List ℕ → Bool
says_form bytes = is_form (live_line_of bytes)

-- one of the lines of a script has
abbrev pub has_form : List ℕ → Bool
has_form script = list_any says_form (script_lines script)

-- its lines are taken one by one, strictly or not, without a limit of time, and what comes of them is printed in words
abbrev pub script_setting : Bool → (Option (List ℕ) → DiskView → Type 0) → LiveSetting
script_setting strict held = live_setting (line_by_line None strict) in_words held

-- What a script that was read comes to on a disk where it is run, strictly or not, and how it ends. One that isn't run strictly stops at no line: its
-- status is 0, or 1 at a fault.
pub record RunsWhole {D C W E : Type 0} (o : LiveSetting) (script : List ℕ) (r : ProgramRun D C W) (e : Saying E) (ending : Ending) : Type 0 where
  -- the disk after the run, as it was closed
  pub later : D
  pub closed : r.given.how.closed later
  pub same : SameDisk (view_given r.given) (r.given.how.view later)
  pub answer : StrictAnswer
  pub ran : RanScript (running_rules r.rules o.held) o.manner.strict script (outside_before r.given r.called r.wrote) (outside_after r.given later r.called r.wrote) answer
  pub status : ending.status ≡ strict_status answer
  pub reported : TellsStop e ending.reported answer

-- A script that was read is taken line by line, as `live` does it, where one of its lines has such a form, and else as a script.
abbrev pub RunsRead : {D C W E : Type 0} → LiveSetting → List ℕ → ProgramRun D C W → Saying E → Ending → Type 0
RunsRead o script r e ending = MatchBool (has_form script) (LiveEnded o (Some script) r e ending) (RunsWhole o script r e ending)

-- How `run` ends on a disk, where its reader gives this stream.
pub data ScriptEnds {D C W E : Type 0} (o : LiveSetting) (stream : Option (List ℕ)) (r : ProgramRun D C W) (e : Saying E) (ending : Ending) : Type 0 where
  -- the script is the whole stream
  whole : (script : List ℕ) → IfSome stream (λ bytes. script ≡ bytes) → length script ≤ longest_standard_input → RunsRead o script r e ending
      → ScriptEnds o stream r e ending
  -- it couldn't be read whole, and nothing was done but to close the disk
  unread : (why : RunFault) → IsInputFault why → (why ≡ fault.InputTooLong → IfSome stream (λ bytes. longest_standard_input < length bytes))
      → DoesNothing r.called r.wrote → r.given.how.closed r.given.disk → EndsAs e ending (Err why) → ScriptEnds o stream r e ending

-- the same of the disk that was opened
abbrev pub ScriptOpened : {D C W E : Type 0} → LiveSetting → Option (List ℕ) → ProgramPassage D C W → Saying E → Ending → D → Type 0
ScriptOpened o stream p e ending disk = ScriptEnds o stream (run_on p disk) e ending

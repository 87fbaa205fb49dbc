-- A run of a script over a worksheet on a disk. (docs/use/SCRIPT.md.)
use Rattle.std.specs.Prelude.{◌≡◌, ◌≤◌, ◌<◌, ℕ, Bool, true, false, List, Option, Result, Ok, Err, IfErr, IfSome, length}
use Rattle.disk_model.specs.Disk.{DiskView}
use Rattle.offline_programs.specs.Input.{IsInputFault, longest_standard_input}
use Rattle.offline_programs.specs.Memory.{script_lines}
use Rattle.offline_programs.specs.declared.fault.RunFault.{RunFault}
use Rattle.offline_programs.specs.declared.fault.RunFault.TheVariants as fault
use Rattle.tellings.specs.Words.{in_words}
use Rattle.driver.specs.Noted.{PrintedSoFar, noting_rules, printed_so_far}
use Rattle.driver.specs.Over.{Over, ProgramParts, program_parts}
use Rattle.driver.specs.Place.{Rules, SourceRules, rules}
use Rattle.driver.specs.TrueFaults.{IsTrueOf}
use Rattle.script_agenda.specs.ScriptAt.{ScriptAt, script_begun, stopped_line}
use Rattle.script_agenda.specs.ScriptRules.{script_rules}

-- What is outside of a run: its disk, the sources of all that comes, the interpreters among them, and all that was written, where that is known.
pub record Outside (C : Type 0) : Type 0 where
  pub disk : DiskView
  pub sources : C
  pub written : Option (List ℕ)

abbrev pub outside : {C : Type 0} → DiskView → C → Option (List ℕ) → Outside C
outside disk sources written = record { disk = disk; sources = sources; written = written }

-- a driver of a script, which prints the texts of its replies on a stream that is stamped so
abbrev pub running_rules : {C : Type 0} → SourceRules C → (Option (List ℕ) → DiskView → Type 0) → Rules ScriptAt C PrintedSoFar
running_rules sources held = rules script_rules sources (noting_rules in_words held)

-- what it is given and gives back, where the script stands so and all of the last text went out or not
abbrev pub running_parts : {C : Type 0} → Outside C → Bool → ScriptAt → ProgramParts ScriptAt C PrintedSoFar
running_parts o whole at = program_parts o.disk o.sources (printed_so_far o.written whole) at

-- The number of the line after which it stopped, where it is strict and did, or its fault. Where not all of the last text went out the
-- output failed, and nothing else is answered.
abbrev pub script_answer : Result (Unit {0}) RunFault → Bool → ScriptAt → Result (Option ℕ) RunFault
script_answer run false at = Err fault.Output
script_answer (Ok done) true at = Ok (stopped_line at)
script_answer (Err why) true at = Err why

-- The driver ran by these rules over the disk with the lines of this script, from before the first of them on. A fault is true of the disk: that it failed is reported
-- only where it did. Whatever is answered but that the output failed, what was written is the texts of the steps, and no more.
pub record RanScript {C : Type 0} (R : Rules ScriptAt C PrintedSoFar) (strict : Bool) (script : List ℕ) (first last : Outside C) (answer : Result (Option ℕ) RunFault) : Type 0 where
  pub at_end : ScriptAt
  pub run : Result (Unit {0}) RunFault
  pub whole : Bool
  pub over : Over R (running_parts first true (script_begun (script_lines script) strict)) (running_parts last whole at_end) run
  pub true_of : IfErr run (λ why. IsTrueOf why first.disk last.disk)
  pub is : answer ≡ script_answer run whole at_end

-- The same of a script that comes from a reader with this stream, where that is known.
pub data RanRead {C : Type 0} (R : Rules ScriptAt C PrintedSoFar) (stream : Option (List ℕ)) (first last : Outside C) : Result (Option ℕ) RunFault → Type 0 where
  ran_whole : (script : List ℕ) (answer : Result (Option ℕ) RunFault) → IfSome stream (λ bytes. script ≡ bytes) → length script ≤ longest_standard_input
      → RanScript R false script first last answer → RanRead R stream first last answer
  -- it couldn't be read whole, and nothing was done
  unread : (why : RunFault) → IsInputFault why → (why ≡ fault.InputTooLong → IfSome stream (λ bytes. longest_standard_input < length bytes)) → last ≡ first
      → RanRead R stream first last (Err why)

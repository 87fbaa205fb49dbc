-- A program's input.
use Rattle.std.specs.Prelude.{ℕ}
use Rattle.offline_programs.specs.declared.fault.RunFault.{RunFault}
use Rattle.offline_programs.specs.declared.fault.RunFault.TheVariants as fault

-- the most bytes that a program takes
abbrev pub longest_standard_input : ℕ
longest_standard_input = 67108864

-- a fault that reading an input can have
pub data IsInputFault : RunFault → Type 0 where
  unread : IsInputFault fault.Input
  too_long : IsInputFault fault.InputTooLong
  no_memory : IsInputFault fault.OutOfMemory

-- a fault of a program that has only its input, its output and memory
pub data IsStreamFault : RunFault → Type 0 where
  of_input : (why : RunFault) → IsInputFault why → IsStreamFault why
  unwritten : IsStreamFault fault.Output

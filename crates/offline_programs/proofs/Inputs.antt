-- Which faults an input and a stream can have.
use Rattle.std.proofs.Common.{◌≡◌, sym, subst}
use Rattle.offline_programs.specs.Input.{IsInputFault, IsStreamFault, no_memory, of_input, too_long, unread, unwritten}
use Rattle.offline_programs.specs.declared.fault.RunFault.{RunFault}
use Rattle.offline_programs.specs.declared.fault.RunFault.TheVariants as fault

pub stream_of_input : (why : RunFault) → IsInputFault why → IsStreamFault why
stream_of_input why is = of_input why is

pub stream_of_output : (why : RunFault) → why ≡ fault.Output → IsStreamFault why
stream_of_output why is = subst IsStreamFault (sym is) unwritten

pub ruleset stream_faults = (stream_of_input, stream_of_output)

pub input_unread : IsInputFault fault.Input
input_unread = unread

pub input_too_long : IsInputFault fault.InputTooLong
input_too_long = too_long

pub input_no_memory : IsInputFault fault.OutOfMemory
input_no_memory = no_memory

pub ruleset input_faults = (input_unread, input_too_long, input_no_memory)

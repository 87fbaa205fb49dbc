-- Which faults the objects of a stream can have.
use Rattle.std.proofs.Common.{inl, inr, sym, subst}
use Rattle.offline_programs.specs.Input.{IsInputFault, IsStreamFault, no_memory, of_input, unwritten}
use Rattle.offline_programs.specs.declared.fault.RunFault.{RunFault}
use Rattle.offline_programs.specs.declared.fault.RunFault.TheVariants as fault
use Rattle.stream_json.specs.StreamObjects.{IsUnwritten}

pub read_fault : (why : RunFault) → IsInputFault why → IsStreamFault why
read_fault why is = of_input why is

pub write_fault : (why : RunFault) → IsUnwritten why → IsStreamFault why
write_fault why (inl is) = subst IsStreamFault (sym is) unwritten
write_fault why (inr is) = subst IsStreamFault (sym is) (of_input fault.OutOfMemory no_memory)

pub ruleset stream_faults = (read_fault, write_fault)

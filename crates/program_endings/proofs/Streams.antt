-- Which faults the lines of a stream can have.
use Rattle.std.proofs.Common.{◌≡◌, sym, subst}
use Rattle.offline_programs.specs.Input.{IsInputFault, IsStreamFault, of_input, unwritten}
use Rattle.offline_programs.specs.declared.fault.RunFault.{RunFault}
use Rattle.offline_programs.specs.declared.fault.RunFault.TheVariants as fault

pub read_fault : (why : RunFault) → IsInputFault why → IsStreamFault why
read_fault why is = of_input why is

pub write_fault : (why : RunFault) → why ≡ fault.Output → IsStreamFault why
write_fault why is = subst IsStreamFault (sym is) unwritten

pub ruleset stream_faults = (read_fault, write_fault)

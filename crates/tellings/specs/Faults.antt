-- The number and the name of a fault, and the offset of a damage. (docs/use/FAULTS.md.)
use Rattle.std.specs.Prelude.{ℕ, List, Option, Some, None, codes}
use Rattle.journal.specs.declared.opening.OpenCause.{OpenCause}
use Rattle.journal.specs.declared.opening.OpenCause.TheVariants as opens
use Rattle.host_events.specs.declared.outcome.HostFault.{HostFault}
use Rattle.host_events.specs.declared.outcome.HostFault.TheVariants as hosts
use Rattle.offline_programs.specs.declared.fault.RunFault.{RunFault}
use Rattle.offline_programs.specs.declared.fault.RunFault.TheVariants as fault

abbrev pub host_fault_number : HostFault → ℕ
host_fault_number hosts.Closed = 20
host_fault_number hosts.Disk = 21
host_fault_number hosts.OutOfMemory = 22
host_fault_number hosts.JournalFull = 23

abbrev pub host_fault_name : HostFault → List ℕ
host_fault_name hosts.Closed = codes "Closed"
host_fault_name hosts.Disk = codes "Disk"
host_fault_name hosts.OutOfMemory = codes "OutOfMemory"
host_fault_name hosts.JournalFull = codes "JournalFull"

abbrev pub open_fault_number : OpenCause → ℕ
open_fault_number (opens.Damaged gate) = 30
open_fault_number opens.NotASheet = 31
open_fault_number opens.Disk = 32
open_fault_number opens.OutOfMemory = 33

abbrev pub open_fault_name : OpenCause → List ℕ
open_fault_name (opens.Damaged gate) = codes "Damaged"
open_fault_name opens.NotASheet = codes "NotASheet"
open_fault_name opens.Disk = codes "Disk"
open_fault_name opens.OutOfMemory = codes "OutOfMemory"

abbrev pub damage_offset : OpenCause → Option ℕ
damage_offset (opens.Damaged gate) = Some gate
damage_offset opens.NotASheet = None
damage_offset opens.Disk = None
damage_offset opens.OutOfMemory = None

abbrev pub fault_number : RunFault → ℕ
fault_number fault.Input = 40
fault_number fault.InputTooLong = 41
fault_number fault.Output = 42
fault_number fault.OutOfMemory = 43
fault_number (fault.Host why) = host_fault_number why
fault_number (fault.Open why) = open_fault_number why
fault_number fault.InUse = 35
fault_number fault.SecondFile = 38

abbrev pub fault_name : RunFault → List ℕ
fault_name fault.Input = codes "Input"
fault_name fault.InputTooLong = codes "InputTooLong"
fault_name fault.Output = codes "Output"
fault_name fault.OutOfMemory = codes "OutOfMemory"
fault_name (fault.Host why) = host_fault_name why
fault_name (fault.Open why) = open_fault_name why
fault_name fault.InUse = codes "InUse"
fault_name fault.SecondFile = codes "SecondFile"

abbrev pub fault_offset : RunFault → Option ℕ
fault_offset fault.Input = None
fault_offset fault.InputTooLong = None
fault_offset fault.Output = None
fault_offset fault.OutOfMemory = None
fault_offset (fault.Host why) = None
fault_offset (fault.Open why) = damage_offset why
fault_offset fault.InUse = None
fault_offset fault.SecondFile = None

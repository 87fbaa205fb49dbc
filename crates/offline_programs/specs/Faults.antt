-- The line that tells a fault, and what a fault tells of a disk.
use Rattle.std.specs.Prelude.{ℕ, List, [], ◌∷◌, ◌++◌, codes}
use Rattle.std.specs.Fmt.{decimal}
use Rattle.disk_model.specs.Disk.{DiskView, InModel, Looks, bytes_on}
use Rattle.journal.specs.declared.opening.OpenCause.{OpenCause}
use Rattle.journal.specs.declared.opening.OpenCause.TheVariants as opens
use Rattle.recovery.specs.Sheets.{TellsOfSheet}
use Rattle.host_events.specs.declared.outcome.HostFault.{HostFault}
use Rattle.host_events.specs.declared.outcome.HostFault.TheVariants as hosts
use Rattle.offline_programs.specs.declared.fault.RunFault.{RunFault}
use Rattle.offline_programs.specs.declared.fault.RunFault.TheVariants as fault

abbrev pub host_fault_text : HostFault → List ℕ
host_fault_text hosts.Closed = codes "fault 20 Closed\n"
host_fault_text hosts.Disk = codes "fault 21 Disk\n"
host_fault_text hosts.OutOfMemory = codes "fault 22 OutOfMemory\n"
host_fault_text hosts.JournalFull = codes "fault 23 JournalFull\n"

-- damage is printed with the offset of its gate
abbrev pub open_fault_text : OpenCause → List ℕ
open_fault_text (opens.Damaged gate) = codes "fault 30 Damaged " ++ decimal gate ++ 10 ∷ []
open_fault_text opens.NotASheet = codes "fault 31 NotASheet\n"
open_fault_text opens.Disk = codes "fault 32 Disk\n"
open_fault_text opens.OutOfMemory = codes "fault 33 OutOfMemory\n"

abbrev pub fault_text : RunFault → List ℕ
fault_text fault.Input = codes "fault 40 Input\n"
fault_text fault.InputTooLong = codes "fault 41 InputTooLong\n"
fault_text fault.Output = codes "fault 42 Output\n"
fault_text fault.OutOfMemory = codes "fault 43 OutOfMemory\n"
fault_text (fault.Host why) = host_fault_text why
fault_text (fault.Open why) = open_fault_text why
fault_text fault.InUse = codes "fault 35 InUse\n"
fault_text fault.SecondFile = codes "fault 38 SecondFile\n"

-- What a fault of `show` tells: the damage of the disk, where nothing was written, or that the writer failed.
pub data TellsShow (disk : DiskView) (nothing : Type 0) : RunFault → Type 0 where
  unopened : (why : OpenCause) → nothing → InModel disk (TellsOfSheet (bytes_on disk) why) → TellsShow disk nothing (fault.Open why)
  unwritten : TellsShow disk nothing fault.Output

-- no byte of the disk was changed, and at every moment each image was one that a crash could leave before
abbrev pub Untouched : DiskView → DiskView → Type 0
Untouched disk later = InModel disk (Looks disk.history later.history)

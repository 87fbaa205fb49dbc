-- What is reported where a program has no files of a worksheet, or no place of a closed stream.
use Rattle.std.specs.Prelude.{ℕ, List, codes}
use Rattle.journal.specs.declared.opening.CreateCause.TheVariants as creates
use Rattle.journal.specs.declared.opening.OpenCause.TheVariants as opens
use Rattle.sheet_files.specs.declared.files_fault.FilesFault.{FilesFault}
use Rattle.sheet_files.specs.declared.files_fault.FilesFault.TheVariants as files
use Rattle.sheet_files.specs.declared.files_fault.HoldFault.{HoldFault}
use Rattle.sheet_files.specs.declared.files_fault.HoldFault.TheVariants as holds
use Rattle.sheet_files.specs.declared.files_fault.MakeFault.{MakeFault}
use Rattle.sheet_files.specs.declared.files_fault.MakeFault.TheVariants as makes
use Rattle.offline_programs.specs.declared.fault.RunFault.{RunFault}
use Rattle.offline_programs.specs.declared.fault.RunFault.TheVariants as fault

-- the line that tells why no worksheet was made
abbrev pub create_fault_text : MakeFault → List ℕ
create_fault_text (makes.Create creates.NotEmpty) = codes "fault 34 NotEmpty\n"
create_fault_text (makes.Create creates.Disk) = codes "fault 32 Disk\n"
create_fault_text makes.InUse = codes "fault 35 InUse\n"
create_fault_text makes.SecondFile = codes "fault 38 SecondFile\n"

-- the fault of a program that has no files of a worksheet
abbrev pub no_files : FilesFault → RunFault
no_files files.InUse = fault.InUse
no_files files.SecondFile = fault.SecondFile
no_files files.Disk = fault.Open opens.Disk

-- and of one that can't hold the place of a closed stream
abbrev pub no_place : HoldFault → RunFault
no_place holds.Input = fault.Input
no_place holds.Output = fault.Output

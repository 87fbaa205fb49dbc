-- What a fault of writing a worksheet tells is what one of an export does.
use Rattle.std.proofs.Common.{◌≡◌, true}
use Rattle.disk_model.specs.Disk.{DiskView, InModel, bytes_on}
use Rattle.journal.specs.declared.opening.OpenCause.{OpenCause}
use Rattle.worksheet.specs.Contents.{Contents}
use Rattle.sheet_export.specs.Formats.{TellsExport, TellsProgramFault, TellsText, TellsWriting, is_made_whole, no_memory, opening, unwritten, writing}
use Rattle.offline_programs.specs.Faults.{unopened}
use Rattle.recovery.specs.Sheets.{TellsOfSheet}
use Rattle.offline_programs.specs.declared.fault.RunFault.TheVariants as run
use Rattle.sheet_export.specs.declared.fault.ExportFault.{ExportFault}
use Rattle.sheet_export.specs.declared.fault.ExportFault.TheVariants as fault
use Rattle.sheet_export.specs.declared.formats.Format.{Format}

pub writer_failed : (format : Format) (nothing : Type 0) → TellsWriting format nothing run.Output
writer_failed format nothing = unwritten

pub lacked_memory : (format : Format) (nothing : Type 0) → nothing → is_made_whole format ≡ true → TellsWriting format nothing run.OutOfMemory
lacked_memory format nothing none whole = no_memory none whole

pub ruleset writing_faults = (writer_failed, lacked_memory)

pub not_opened : (format : Format) (disk : DiskView) (nothing : Type 0) (why : OpenCause) → nothing → InModel disk (TellsOfSheet (bytes_on disk) why)
    → TellsProgramFault format disk nothing (run.Open why)
not_opened format disk nothing why idle tells = opening why (unopened why idle tells)

pub reported_so : (format : Format) (sheet : Contents) (disk : DiskView) (nothing : Type 0) (why : ExportFault) → TellsText format sheet nothing why → TellsExport format disk nothing why
reported_so format sheet disk nothing fault.NoScript reported = reported.0
reported_so format sheet disk nothing (fault.Run why) reported = writing why reported

-- What a fault tells of a disk whose front can't be read.
use Rattle.disk_model.specs.Disk.{DiskView, InModel, bytes_on}
use Rattle.journal.specs.Front.{TellsHeader}
use Rattle.journal.specs.declared.opening.OpenCause.{OpenCause}
use Rattle.offline_programs.specs.Rescue.{TellsRescue, headless}
use Rattle.offline_programs.specs.declared.fault.RunFault.TheVariants as fault

pub header_reported : (disk : DiskView) (why : OpenCause) → InModel disk (TellsHeader (bytes_on disk) why) → TellsRescue disk (fault.Open why)
header_reported disk why tells = headless why tells

-- A disk on which nothing was done, and what a fault of the writer tells of a worksheet in print.
use Rattle.std.proofs.Common.{◌≡◌, [], refl, sym, subst}
use Rattle.disk_model.specs.Disk.{DiskView}
use Rattle.offline_programs.specs.Faults.{TellsShow, Untouched, unwritten}
use Rattle.offline_programs.specs.declared.fault.RunFault.{RunFault}
use Rattle.offline_programs.specs.declared.fault.RunFault.TheVariants as fault

pub untouched : (disk : DiskView) → Untouched disk disk
untouched disk kept = record { content = refl; moments = record { start = λ c image. image; more = []; states = refl; each = tt } }

pub output_reported : (disk : DiskView) (nothing : Type 0) (why : RunFault) → why ≡ fault.Output → TellsShow disk nothing why
output_reported disk nothing why is = subst (TellsShow disk nothing) (sym is) unwritten

-- What is so of the disk where a run has a fault.
use Rattle.std.specs.Prelude.{◌≡◌}
use Rattle.disk_model.specs.Disk.{DiskView, Rises}
use Rattle.journal.specs.declared.opening.OpenCause.{OpenCause}
use Rattle.journal.specs.declared.opening.OpenCause.TheVariants as opens
use Rattle.host_events.specs.declared.outcome.HostFault.{HostFault}
use Rattle.host_events.specs.declared.outcome.HostFault.TheVariants as hosts
use Rattle.offline_programs.specs.declared.fault.RunFault.{RunFault}
use Rattle.offline_programs.specs.declared.fault.RunFault.TheVariants as fault

-- That the disk failed is a fault only where it did.
abbrev pub IsTrueOfHost : HostFault → DiskView → DiskView → Type 0
IsTrueOfHost hosts.Closed old new = Unit {0}
IsTrueOfHost hosts.Disk old new = Rises old.faults new.faults
IsTrueOfHost hosts.OutOfMemory old new = Unit {0}
IsTrueOfHost hosts.JournalFull old new = Unit {0}

-- The same of any fault of a run. That the disk wasn't opened is none: it was, before the run.
abbrev pub IsTrueFault : RunFault → DiskView → DiskView → Type 0
IsTrueFault fault.Input old new = Unit {0}
IsTrueFault fault.InputTooLong old new = Unit {0}
IsTrueFault fault.Output old new = Unit {0}
IsTrueFault fault.OutOfMemory old new = Unit {0}
IsTrueFault (fault.Host f) old new = IsTrueOfHost f old new
IsTrueFault (fault.Open why) old new = ⊥
IsTrueFault fault.InUse old new = Unit {0}
IsTrueFault fault.SecondFile old new = Unit {0}

-- Why a disk wasn't opened: because it failed only where it did, and for another cause only where no call of it failed.
abbrev pub IsTrueAtOpening : OpenCause → DiskView → DiskView → Type 0
IsTrueAtOpening (opens.Damaged gate) old new = new.faults ≡ old.faults
IsTrueAtOpening opens.NotASheet old new = new.faults ≡ old.faults
IsTrueAtOpening opens.Disk old new = Rises old.faults new.faults
IsTrueAtOpening opens.OutOfMemory old new = new.faults ≡ old.faults

-- The same of any fault of a program over a disk.
abbrev pub IsTrueOf : RunFault → DiskView → DiskView → Type 0
IsTrueOf fault.Input old new = Unit {0}
IsTrueOf fault.InputTooLong old new = Unit {0}
IsTrueOf fault.Output old new = Unit {0}
IsTrueOf fault.OutOfMemory old new = Unit {0}
IsTrueOf (fault.Host f) old new = IsTrueOfHost f old new
IsTrueOf (fault.Open why) old new = IsTrueAtOpening why old new
IsTrueOf fault.InUse old new = Unit {0}
IsTrueOf fault.SecondFile old new = Unit {0}

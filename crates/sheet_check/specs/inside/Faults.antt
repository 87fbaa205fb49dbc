-- Why an answer isn't accepted, by why its op isn't committed.
use Rattle.recovery.specs.declared.fault.CommitFault.{CommitFault}
use Rattle.recovery.specs.declared.fault.CommitFault.TheVariants as commits
use Rattle.sheet_check.specs.declared.accept.PutFault.{PutFault}
use Rattle.sheet_check.specs.declared.accept.PutFault.TheVariants as refused

abbrev pub fault_for : CommitFault → PutFault
fault_for (commits.Full back) = refused.Full
fault_for (commits.OutOfMemory back) = refused.OutOfMemory
fault_for commits.Disk = refused.Disk
fault_for commits.Closed = refused.Disk

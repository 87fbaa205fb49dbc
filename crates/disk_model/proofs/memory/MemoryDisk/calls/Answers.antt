use Rattle.std.proofs.Common.{arith}
use Rattle.disk_model.specs.Calls.{started_with}
use Rattle.disk_model.specs.Memory.{start_of}
use Rattle.disk_model.proofs.Tied.{length-past}
use Rattle.disk_model.proofs.memory.MemoryDisk.calls.Goals as goal

pub returns : goal.returns
returns c = omega (arith, c.len.ensures, length-past (started_with (start_of c.args.self.now)) c.args.self.now.calls.items)

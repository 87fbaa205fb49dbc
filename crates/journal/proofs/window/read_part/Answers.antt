use Rattle.std.proofs.Common.{◌∙◌, length, drop, arith}
use Rattle.std.proofs.lemmas.List.{take_at}
use Rattle.disk_model.specs.Disk.{area_of, content_of}
use Rattle.journal.proofs.Windows.{begins_taken}
use Rattle.journal.proofs.window.read_part.Goals as goal

pub returns-in-Ok-read-clause-bytes : goal.returns-in-Ok-read-clause-bytes
returns-in-Ok-read-clause-bytes g c = λ model.
    let whole = take_at c.read.new.buffer (drop (length c.read.new.buffer) c.in-Ok.bytes.items) c.in-Ok.bytes.len (omega (arith, c.read.auto.buffer, c.deref_mut.ensures.len, c.in-Ok.ensures.len)) in
    begins_taken _ (drop c.args.at (area_of c.args.area (content_of (g.D.Disk.view c.args.disk.now).history))) _ (whole ∙ c.in-Ok-read.ensures.bytes model)

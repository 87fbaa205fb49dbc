use Rattle.std.proofs.Common.{◌<◌, [], get_or, length, ap, arith, length-append}
use Rattle.journal.specs.Area.{record_of}
use Rattle.journal.proofs.Batches.{batch_more}
use Rattle.journal.proofs.renewal.fill.Goals as goal

pub loop-next-preserved : goal.loop-next-preserved
loop-next-preserved g c =
    let payloads = g.S.Source.payloads c.args.source.now in
    let before = c.loop-next.invariant in
    let n = c.loop-next.next in
    let put = c.put_next-in-loop-next.ensures in
    let some : n < length payloads = omega (arith, c.loop-next-test.true, c.count-count.ensures) in
    record {
      later = omega (arith, before.later);
      within = omega (arith, some);
      batch = batch_more payloads c.args.from n c.loop-next.batch.items _ before.batch some put.payload put.record;
      spare = omega (arith, put.capacity, ap length put.record, length-append c.loop-next.batch.items (record_of (get_or payloads n [])), c.requires.memory n some, before.capacity, c.if-len-lt-BATCH_LEN.true, c.len.ensures);
      capacity = omega (arith, before.capacity, put.capacity);
    }

use Rattle.std.proofs.Common.{◌≤◌, ◌<◌, ◌+◌, ◌-◌, length, vec_capacity, vec_len}
use Rattle.journal.specs.inside.Batches.{IsBatch}
use Rattle.journal.proofs.renewal.fill.Given as goal

abbrev pub invariant-loop-next : goal.invariant-loop-next
invariant-loop-next g l =
    let payloads = g.S.Source.payloads l.source in
    record {
      later : l.from < l.next;
      within : l.next ≤ length payloads;
      batch : IsBatch payloads l.from l.next l.batch.items;
      spare : vec_len l.batch + 1 ≤ vec_capacity l.batch;
      capacity : vec_capacity l.fn.batch ≤ vec_capacity l.batch;
    }

abbrev pub decreases-loop-next : goal.decreases-loop-next
decreases-loop-next g l = length (g.S.Source.payloads l.source) - l.next

use Rattle.std.proofs.Common.{IsTrue, ◌++◌, ◌∷◌, [], List, ℕ, length, take, arith, ap, sym, ◌∙◌, subst, length-append}
use Rattle.std.proofs.lemmas.Grind.{common_steps}
use Rattle.disk_model.specs.Disk.{area_of, bytes_on}
use Rattle.journal.specs.Area.{StandsFor, closed_gate}
use Rattle.journal.specs.Limits.{longest_payload}
use Rattle.journal.proofs.Again.{end_take_le, spared_on, spares_on, spares_sync, went_still}
use Rattle.journal.proofs.Batches.{end_after, holds_more}
use Rattle.journal.proofs.renewal.lay_from.Goals as goal

pub fill-following-requires-clause-memory : goal.fill-following-requires-clause-memory
fill-following-requires-clause-memory g c = holds_more _ _ _ c.requires.memory c.loop-next.invariant.capacity

pub lay_batch-requires-clause-inside : goal.lay_batch-requires-clause-inside
lay_batch-requires-clause-inside g c = λ model1.
    let b = c.fill-following.ensures.batch in
    let payloads = g.S.Source.payloads c.args.source.now in
    let size = ap length (c.as_slice-bytes.ensures.value ∙ b.1) in
    let went = c.loop-next.invariant.went in
    let model = subst IsTrue went.keeps_model model1 in
    (c.loop-next.invariant.inside model, omega (arith, went.room, size, length-append b.0 (closed_gate ∷ []), c.loop-next.invariant.end, c.requires.room model, end_after payloads c.loop-next.next c.fill-following.result b.0 b.2, end_take_le payloads c.fill-following.result))

pub overflow_add-end : goal.overflow_add-end
overflow_add-end g c =
    let b = c.fill-following.ensures.batch in
    let payloads = g.S.Source.payloads c.args.source.now in
    let size = ap length (c.as_slice-bytes.ensures.value ∙ b.1) in
    omega (arith, size, length-append b.0 (closed_gate ∷ []), c.loop-next.invariant.end, c.requires.small, end_after payloads c.loop-next.next c.fill-following.result b.0 b.2, end_take_le payloads c.fill-following.result)

pub returns-in_err-lay_batch-clause-moments : goal.returns-in_err-lay_batch-clause-moments
returns-in_err-lay_batch-clause-moments g c = λ model.
    let went = c.loop-next.invariant.went in
    spares_on c.args.area _ _ _ (c.loop-next.invariant.moments model) (c.lay_batch.ensures.moments (went_still _ _ went model))

pub returns-in_err-sync-clause-moments : goal.returns-in_err-sync-clause-moments
returns-in_err-sync-clause-moments g c = λ model.
    spares_sync c.args.area _ _ _ _ _ (c.loop-next.invariant.moments model) (c.sync.ensures.syncs (went_still _ _ c.loop-next.invariant.went model))

pub returns-clause-moments : goal.returns-clause-moments
returns-clause-moments g c = λ model.
    spares_sync c.args.area _ _ _ _ _ (c.loop-next.invariant.moments model) (c.sync.ensures.syncs (went_still _ _ c.loop-next.invariant.went model))

pub loop-next-preserved : goal.loop-next-preserved
loop-next-preserved g c =
    let b = c.fill-following.ensures.batch in
    let payloads = g.S.Source.payloads c.args.source.now in
    let is = c.as_slice-bytes.ensures.value ∙ b.1 in
    let size = ap length is in
    let before = c.loop-next.invariant in
    let went = before.went in
    record {
      within = c.fill-following.ensures.within;
      capacity = omega (arith, before.capacity, c.fill-following.ensures.capacity);
      end = omega (arith, size, length-append b.0 (closed_gate ∷ []), before.end, end_after payloads c.loop-next.next c.fill-following.result b.0 b.2);
      went = record {
        room = c.lay_batch.ensures.called.room ∙ went.room;
        keeps_model = c.lay_batch.ensures.called.keeps_model ∙ went.keeps_model;
        steady = c.in_ok-lay_batch.ensures.called.cause ∙ went.steady;
      };
      moments = λ model. spares_on c.args.area _ _ _ (before.moments model) (c.lay_batch.ensures.moments (went_still _ _ went model));
      spared = λ model. spared_on c.args.area _ _ _ (before.spared model) (c.lay_batch.ensures.spared (went_still _ _ went model));
      inside = λ model.
          omega (arith, c.in_ok-lay_batch.ensures.inside (went_still _ _ went model), size, length-append b.0 (closed_gate ∷ []));
      laid = λ model headed.
          let model1 = went_still _ _ went model in
          subst (λ (ps : List (List ℕ)). StandsFor longest_payload (area_of c.args.area (bytes_on (g.D.Disk.view c.lay_batch.new.disk))) ps) (sym b.2.split)
          (c.in_ok-lay_batch.ensures.laid model1 (take c.loop-next.next payloads) b.2.those b.2.each (is ∙ ap (λ (l : List ℕ). l ++ closed_gate ∷ []) b.2.are) before.end (before.laid model headed));
    }

pub overflow_sub-end : goal.overflow_sub-end
overflow_sub-end g c = grind (arith, common_steps)

pub returns-clause-end : goal.returns-clause-end
returns-clause-end g c = grind (arith, common_steps)

pub returns-clause-inside : goal.returns-clause-inside
returns-clause-inside g c = grind (arith, common_steps)

pub returns-clause-laid : goal.returns-clause-laid
returns-clause-laid g c = grind (arith, common_steps)

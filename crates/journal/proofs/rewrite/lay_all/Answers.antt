use Rattle.std.proofs.Common.{◌≡◌, ◌+◌, ◌<◌, IsTrue, ◌++◌, ◌∷◌, [], List, ℕ, length, take, arith, ap, sym, ◌∙◌, subst, length-append}
use Rattle.std.proofs.lemmas.Grind.{common_steps}
use Rattle.std.proofs.lemmas.List.{take_more}
use Rattle.disk_model.specs.Disk.{area_of, bytes_on}
use Rattle.journal.specs.Area.{StandsFor, body_of, closed_gate}
use Rattle.journal.specs.Limits.{longest_payload}
use Rattle.journal.proofs.Again.{end_take_le, end_take_more, spared_on, spares_on, spares_sync, went_still}
use Rattle.journal.proofs.rewrite.lay_all.Goals as goal

pub lay_record-requires-clause-room : goal.lay_record-requires-clause-room
lay_record-requires-clause-room g c =
    let i = c.loop-frame.frame-index in
    let f = c.frame-item.result in
    let size = ap length c.bytes-bytes.ensures.bytes in
    omega (arith, size, length-append (body_of f) (closed_gate ∷ []), ap length c.frame-item.is, c.loop-frame.invariant.end, c.requires.small, end_take_more c.args.frames.now i f (omega (arith, c.loop-frame-test.true)), end_take_le c.args.frames.now (i + 1))

pub lay_record-requires-clause-inside : goal.lay_record-requires-clause-inside
lay_record-requires-clause-inside g c = λ model1.
    let i = c.loop-frame.frame-index in
    let f = c.frame-item.result in
    let size = ap length c.bytes-bytes.ensures.bytes in
    let went = c.loop-frame.invariant.went in
    let model = subst IsTrue went.keeps_model model1 in
    (c.loop-frame.invariant.inside model, omega (arith, went.room, size, length-append (body_of f) (closed_gate ∷ []), ap length c.frame-item.is, c.loop-frame.invariant.end, c.requires.room model, end_take_more c.args.frames.now i f (omega (arith, c.loop-frame-test.true)), end_take_le c.args.frames.now (i + 1)))

pub overflow_add-end : goal.overflow_add-end
overflow_add-end g c =
    let i = c.loop-frame.frame-index in
    let f = c.frame-item.result in
    let size = ap length c.bytes-bytes.ensures.bytes in
    omega (arith, size, length-append (body_of f) (closed_gate ∷ []), ap length c.frame-item.is, c.loop-frame.invariant.end, c.requires.small, end_take_more c.args.frames.now i f (omega (arith, c.loop-frame-test.true)), end_take_le c.args.frames.now (i + 1))

pub returns-in_err-lay_record-clause-moments : goal.returns-in_err-lay_record-clause-moments
returns-in_err-lay_record-clause-moments g c = λ model.
    let went = c.loop-frame.invariant.went in
    spares_on c.args.area _ _ _ (c.loop-frame.invariant.moments model) (c.lay_record.ensures.moments (went_still _ _ went model))

pub returns-in_err-sync-clause-moments : goal.returns-in_err-sync-clause-moments
returns-in_err-sync-clause-moments g c = λ model.
    spares_sync c.args.area _ _ _ _ _ (c.loop-frame.invariant.moments model) (c.sync.ensures.syncs (went_still _ _ c.loop-frame.invariant.went model))

pub returns-clause-moments : goal.returns-clause-moments
returns-clause-moments g c = λ model.
    spares_sync c.args.area _ _ _ _ _ (c.loop-frame.invariant.moments model) (c.sync.ensures.syncs (went_still _ _ c.loop-frame.invariant.went model))

pub loop-frame-preserved : goal.loop-frame-preserved
loop-frame-preserved g c =
    let i = c.loop-frame.frame-index in
    let f = c.frame-item.result in
    let below : i < length c.args.frames.now = omega (arith, c.loop-frame-test.true) in
    let size = ap length c.bytes-bytes.ensures.bytes in
    let before = c.loop-frame.invariant in
    let went = before.went in
    record {
      end = omega (arith, size, length-append (body_of f) (closed_gate ∷ []), ap length c.frame-item.is, before.end, end_take_more c.args.frames.now i f below);
      went = record {
        room = c.lay_record.ensures.called.room ∙ went.room;
        keeps_model = c.lay_record.ensures.called.keeps_model ∙ went.keeps_model;
        steady = c.in_ok-lay_record.ensures.called.cause ∙ went.steady;
      };
      moments = λ model. spares_on c.args.area _ _ _ (before.moments model) (c.lay_record.ensures.moments (went_still _ _ went model));
      spared = λ model. spared_on c.args.area _ _ _ (before.spared model) (c.lay_record.ensures.spared (went_still _ _ went model));
      inside = λ model. c.in_ok-lay_record.ensures.inside (went_still _ _ went model);
      laid = λ model headed.
          let model1 = went_still _ _ went model in
          let all : take i c.args.frames.now ++ f ∷ [] ≡ take (i + 1) c.args.frames.now =
          ap (λ (x : List ℕ). take i c.args.frames.now ++ x ∷ []) c.frame-item.is ∙ sym (take_more c.args.frames.now i f below) in
          subst (λ (ps : List (List ℕ)). StandsFor longest_payload (area_of c.args.area (bytes_on (g.D.Disk.view c.lay_record.new.disk))) ps) all
          (c.in_ok-lay_record.ensures.laid model1 (take i c.args.frames.now) f c.bytes-bytes.ensures.payload c.bytes-bytes.ensures.bytes before.end (before.laid model headed));
    }

pub returns-clause-inside : goal.returns-clause-inside
returns-clause-inside g c = grind (arith, common_steps)

pub returns-clause-laid : goal.returns-clause-laid
returns-clause-laid g c = grind (arith, common_steps)

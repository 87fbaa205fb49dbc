use Rattle.std.proofs.Common.{ap, ◌∙◌, take, get_or, arith}
use Rattle.std.proofs.lemmas.Option.{slice_get-get_or}
use Rattle.evaluation.specs.Rounds.{placed_ids, round_of}
use Rattle.evaluation.proofs.InRounds.{one_placed, placed_again}
use Rattle.evaluation.proofs.rounds.with_rounds.Goals as goal

pub placed_after-placed-requires : goal.placed_after-placed-requires
placed_after-placed-requires c = placed_again c.args.sheet.now.contents.fields (take c.loop-id.id-index c.args.ids.now) c.as_slice.result.now (c.as_slice.ensures.value ∙ c.loop-id.invariant)

pub loop-id-preserved : goal.loop-id-preserved
loop-id-preserved c =
    one_placed c.args.sheet.now.contents.fields c.args.ids.now c.loop-id.id-index
    (get_or c.args.ids.now c.loop-id.id-index 0) c.loop-id.all.items c.push.new.self.items c.placed_after-placed.result c.loop-id.invariant
    (slice_get-get_or c.args.ids.now c.loop-id.id-index 0 (grind (arith))) c.placed_after-placed.ensures.there
    (c.placed_after-placed.ensures.round ∙ ap (λ l. round_of c.args.sheet.now.contents.fields (placed_ids l)
    (get_or c.args.ids.now c.loop-id.id-index 0)) c.as_slice.ensures.value) c.in_ok-push.ensures.items

use Rattle.std.proofs.Common.{List, ◌∙◌, ap, arith, get_or}
use Rattle.std.proofs.lemmas.Option.{slice_get-get_or}
use Rattle.std.specs.Option.{option_copied}
use Rattle.evaluation.specs.Lasts.{after_asking}
use Rattle.evaluation.specs.declared.lasts.Last.{Last}
use Rattle.field_agenda.proofs.Groups.{lasts_next}
use Rattle.field_agenda.proofs.asking.lasts_after.Goals as goal

pub loop-id-preserved : goal.loop-id-preserved
loop-id-preserved c =
    let fields = c.args.sheet.now.contents.fields in
    let group = c.args.group.now in
    let at = c.loop-id.id-index in
    lasts_next c.args.lasts.now fields group at (get_or group at 0) c.loop-id.asked.items c.in_ok-next.next.items (slice_get-get_or group at 0 (grind (arith))) c.loop-id.invariant
    (c.in_ok-next.ensures ∙ ap (λ (l : List Last). after_asking l (option_copied c.field.result)) c.as_slice.ensures.value ∙ ap (after_asking c.loop-id.asked.items) c.field.ensures)

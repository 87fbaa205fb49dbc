use Rattle.std.proofs.Common.{◌∙◌, List, ap, map, subst, sym}
use Rattle.session_engine.specs.World.{sheet_in}
use Rattle.session_engine.specs.Gathers.{NoCheckpoints}
use Rattle.evaluation.specs.declared.lasts.Last.{Last}
use Rattle.field_agenda.specs.Says.{asked_with, asks_field}
use Rattle.field_agenda.specs.Standing.{lasts_after}
use Rattle.field_agenda.proofs.Choices.{group_there, no_checkpoints, stands_there}
use Rattle.field_agenda.proofs.by_fields.ByFields.asking.Goals as goal

pub returns-clause-asks : goal.returns-clause-asks
returns-clause-asks g c = λ w id h there.
    let a = c.args.self.now in
    let at = c.args.at in
    let group = c.in_ok-group.group.items in
    let fields = c.sheet.result.now.contents.fields in
    let all = group_there a.plan w c.as_slice-lasts.result.now a.stand.lasts c.as_slice-ids.result.now a.ids at id group c.as_slice-lasts.ensures c.as_slice-ids.ensures (c.in_ok-group.ensures.group w id h) there in (
      c.in_ok-events.ensures ∙ ap (map asks_field) (c.as_slice.ensures.value ∙ all),
      stands_there a.stand at c.sheet.result.now.contents (sheet_in w) c.as_slice-3.result.now group
          (asked_with a w at id) c.asked_together-stand.result c.as_slice-3.ensures.value all (c.sheet.ensures.stands w h)
          (c.asked_together-stand.ensures fields
          (c.in_ok-asked.ensures ∙ ap (λ (l : List Last). lasts_after l fields c.as_slice-2.result.now) c.as_slice-lasts.ensures
          ∙ ap (lasts_after a.stand.lasts fields) (c.as_slice-2.ensures.value ∙ sym c.as_slice-3.ensures.value))),
    )

pub returns-clause-commands : goal.returns-clause-commands
returns-clause-commands g c = subst NoCheckpoints (sym c.in_ok-events.ensures) (no_checkpoints c.as_slice.result.now)

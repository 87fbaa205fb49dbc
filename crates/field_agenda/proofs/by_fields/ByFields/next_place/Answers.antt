use Rattle.std.proofs.Common.{◌≡◌, Some, inl, inr, slice_get, true}
use Rattle.std.specs.Prelude.{ℕ}
use Rattle.session_engine.specs.World.{sheet_in}
use Rattle.evaluation.specs.Beside.{joins}
use Rattle.evaluation.specs.Meant.{IsAsked}
use Rattle.field_agenda.specs.Says.{MayBeAsked}
use Rattle.field_agenda.proofs.Choices.{asked_there, at_place, joins_there}
use Rattle.field_agenda.proofs.by_fields.ByFields.next_place.Goals as goal

pub returns-then-is_free-clause-may : goal.returns-then-is_free-clause-may
returns-then-is_free-clause-may g c = λ w id h.
    let a = c.args.self.now in
    let shown = c.as_slice-ids.result.now in
    let sheet = c.sheet.result.now.contents in
    at_place c.next_asked.result (λ (at : ℕ). slice_get shown at ≡ Some id → IsAsked a.plan sheet.fields shown a.stand at id) (λ (at : ℕ). slice_get a.ids at ≡ Some id → MayBeAsked a w at id)
    (λ at next there. (asked_there a.plan sheet (sheet_in w) shown a.ids a.stand at id (c.sheet.ensures.stands w h) c.as_slice-ids.ensures next there, inl (c.is_free.ensures.free c.if-is_free.true)))
    (c.next_asked.ensures.next id)

pub returns-else-is_free-clause-may : goal.returns-else-is_free-clause-may
returns-else-is_free-clause-may g c = λ w id h.
    let a = c.args.self.now in
    let shown = c.as_slice-ids.result.now in
    at_place c.joining.result (λ (at : ℕ). slice_get shown at ≡ Some id → IsAsked a.plan (sheet_in w).fields shown a.stand at id × (joins a.plan w a.stand at id ≡ true))
    (λ (at : ℕ). slice_get a.ids at ≡ Some id → MayBeAsked a w at id)
    (λ at next there. let so = joins_there a.plan w shown a.ids a.stand at id c.as_slice-ids.ensures next there in (so.0, inr so.1))
    (c.joining.ensures.next w id h)

use Rattle.std.proofs.Common.{◌≡◌, ◌<◌, ◌≤◌, ◌^◌, ap, length, refl, subst}
use Rattle.std.specs.Prelude.{◌⊎◌}
use Rattle.field_agenda.specs.Says.{uncounted}
use Rattle.field_agenda.proofs.Choices.{beyond, full}
use Rattle.field_agenda.proofs.by_fields.ByFields.next_action.Goals as goal

pub returns-then-is_full : goal.returns-then-is_full
returns-then-is_full g c = λ w h.
    let a = c.args.self.now in
    uncounted (full a.stand (length a.ids) (c.is_full.ensures.yes c.if-is_full.true)) refl refl

pub returns-then-is_beyond : goal.returns-then-is_beyond
returns-then-is_beyond g c = λ w h.
    let a = c.args.self.now in
    let all : length c.as_slice.result.now ≡ length a.ids = ap length c.as_slice.ensures in
    uncounted (beyond a.stand (length a.ids) (subst (λ n. (n < a.stand.taken) ⊎ (2 ^ 31 ≤ n)) all (c.is_beyond.ensures.yes c.if-is_beyond.true))) refl refl

use Rattle.std.proofs.Common.{◌≡◌, ◌∙◌, ap, sym, true}
use Rattle.std.specs.Prelude.{is_some}
use Rattle.worksheet.specs.inside.Entries.{reserved}
use Rattle.worksheet.proofs.EntryLaws.{shown-renew, reserved-renew, Fits-renew, shown-push, reserved-push, Fits-push}
use Rattle.worksheet.proofs.Lookup.{none_from}
use Rattle.worksheet.proofs.Standing.{key_of, next_absent}
use Rattle.worksheet.proofs.edits.reserve_number.Goals as goal

pub add_number-requires : goal.add_number-requires
add_number-requires c = next_absent c.args.fields.now.entries c.args.next c.requires.fields c.requires.below c.requires.absent

pub returns-then-has_earlier-clause-ok : goal.returns-then-has_earlier-clause-ok
returns-then-has_earlier-clause-ok c =
    let es = c.args.fields.now.entries in
    let earlier : is_some (reserved es) ≡ true = ap is_some (sym c.reserved_number.ensures) ∙ sym c.is_some-has_earlier.ensures ∙ c.if-has_earlier.true in
    rw (c.shift_remove_index.ensures.entries, c.in_ok-add_number.ensures.ok, c.count_fields-earlier.ensures) (reserved-renew key_of es c.args.next c.requires.fields earlier)

pub returns-then-has_earlier-clause-same : goal.returns-then-has_earlier-clause-same
returns-then-has_earlier-clause-same c =
    let es = c.args.fields.now.entries in
    let earlier : is_some (reserved es) ≡ true = ap is_some (sym c.reserved_number.ensures) ∙ sym c.is_some-has_earlier.ensures ∙ c.if-has_earlier.true in
    rw (c.shift_remove_index.ensures.entries, c.in_ok-add_number.ensures.ok, c.count_fields-earlier.ensures) (shown-renew key_of es c.args.next c.requires.fields earlier)

pub returns-then-has_earlier-clause-fields : goal.returns-then-has_earlier-clause-fields
returns-then-has_earlier-clause-fields c =
    let es = c.args.fields.now.entries in
    let earlier : is_some (reserved es) ≡ true = ap is_some (sym c.reserved_number.ensures) ∙ sym c.is_some-has_earlier.ensures ∙ c.if-has_earlier.true in
    rw (c.shift_remove_index.ensures.entries, c.in_ok-add_number.ensures.ok, c.count_fields-earlier.ensures) (Fits-renew key_of es c.args.next c.requires.fields earlier)

pub returns-else-has_earlier-clause-ok : goal.returns-else-has_earlier-clause-ok
returns-else-has_earlier-clause-ok c =
    let es = c.args.fields.now.entries in
    let none = none_from (reserved es) (ap is_some (sym c.reserved_number.ensures) ∙ sym c.is_some-has_earlier.ensures ∙ c.if-has_earlier.false) in
    rw c.in_ok-add_number.ensures.ok (reserved-push key_of es c.args.next none)

pub returns-else-has_earlier-clause-same : goal.returns-else-has_earlier-clause-same
returns-else-has_earlier-clause-same c = rw c.in_ok-add_number.ensures.ok (shown-push key_of c.args.fields.now.entries c.args.next)

pub returns-else-has_earlier-clause-fields : goal.returns-else-has_earlier-clause-fields
returns-else-has_earlier-clause-fields c =
    let es = c.args.fields.now.entries in
    let none = none_from (reserved es) (ap is_some (sym c.reserved_number.ensures) ∙ sym c.is_some-has_earlier.ensures ∙ c.if-has_earlier.false) in
    rw c.in_ok-add_number.ensures.ok (Fits-push key_of es c.args.next none c.requires.fields)

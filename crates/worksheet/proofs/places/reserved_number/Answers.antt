use Rattle.std.proofs.Common.{◌∙◌, ◌-◌, ap, sym, length, arith, Option, None, refl}
use Rattle.worksheet.specs.declared.field.Field.{Field}
use Rattle.worksheet.specs.inside.Entries.{with_reserved}
use Rattle.worksheet.proofs.EntryLaws.{reserved-last}
use Rattle.worksheet.proofs.Standing.{key_of}
use Rattle.worksheet.proofs.places.reserved_number.Goals as goal

pub returns-in-Some : goal.returns-in-Some
returns-in-Some c =
    let es = c.args.fields.now.entries in
    let some = c.in_ok-number.ensures.found.0 refl in
    sym (reserved-last key_of es c.requires (length es - 1) (omega (arith, some)) c.in_ok-number.number.now c.in_ok-number.slot.now (sym c.in_ok-number.ensures.entry)
    ∙ ap (λ (o : Option Field). with_reserved c.in_ok-number.number.now o None) (sym c.in-Some.ensures))

pub returns-in-None : goal.returns-in-None
returns-in-None c =
    let es = c.args.fields.now.entries in
    let some = c.in_ok-number.ensures.found.0 refl in
    sym (reserved-last key_of es c.requires (length es - 1) (omega (arith, some)) c.in_ok-number.number.now c.in_ok-number.slot.now (sym c.in_ok-number.ensures.entry)
    ∙ ap (λ (o : Option Field). with_reserved c.in_ok-number.number.now o None) (sym c.in-None.ensures))

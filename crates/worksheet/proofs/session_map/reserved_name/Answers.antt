use Rattle.std.proofs.Common.{◌∙◌, ◌-◌, ap, sym, length, arith, Option, None, refl}
use Rattle.worksheet.specs.declared.field.Session.{Session}
use Rattle.worksheet.specs.inside.Entries.{with_reserved}
use Rattle.worksheet.proofs.EntryLaws.{reserved-last}
use Rattle.worksheet.proofs.NamedSessions.{name_in}
use Rattle.worksheet.proofs.session_map.reserved_name.Goals as goal

pub returns-in-Some : goal.returns-in-Some
returns-in-Some c =
    let es = c.args.sessions.now.entries in
    let some = c.in_ok-name.ensures.found.0 refl in
    sym (reserved-last name_in es c.requires.fits (length es - 1) (omega (arith, some)) c.in_ok-name.name.now c.in_ok-name.session.now (sym c.in_ok-name.ensures.entry)
    ∙ ap (λ (o : Option Session). with_reserved c.in_ok-name.name.now o None) c.in-Some.is)

pub returns-in-None : goal.returns-in-None
returns-in-None c =
    let es = c.args.sessions.now.entries in
    let some = c.in_ok-name.ensures.found.0 refl in
    sym (reserved-last name_in es c.requires.fits (length es - 1) (omega (arith, some)) c.in_ok-name.name.now c.in_ok-name.session.now (sym c.in_ok-name.ensures.entry)
    ∙ ap (λ (o : Option Session). with_reserved c.in_ok-name.name.now o None) c.in-None.is)

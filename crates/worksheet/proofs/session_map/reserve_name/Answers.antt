use Rattle.std.proofs.Common.{◌≡◌, ◌∙◌, ap, sym, subst, List, true}
use Rattle.std.specs.Prelude.{is_some}
use Rattle.worksheet.specs.declared.field.Session.{Session}
use Rattle.worksheet.specs.inside.Entries.{AreNamed, reserved}
use Rattle.worksheet.proofs.EntryLaws.{shown-renew, reserved-renew, Fits-renew, shown-push, reserved-push, Fits-push}
use Rattle.worksheet.proofs.Lookup.{is_some-copied, none_from}
use Rattle.worksheet.proofs.NamedSessions.{name_absent, name_in}
use Rattle.worksheet.proofs.session_map.reserve_name.Goals as goal

pub add_name-requires : goal.add_name-requires
add_name-requires c =
    let es = c.args.sessions.now.entries in
    rw c.in-Some.ensures.value (name_absent es c.args.name.now c.requires.sessions c.requires.new c.requires.absent)

pub returns-then-has_earlier-clause-ok : goal.returns-then-has_earlier-clause-ok
returns-then-has_earlier-clause-ok c =
    let es = c.args.sessions.now.entries in
    let earlier : is_some (reserved es) ≡ true = ap is_some (sym c.reserved_name.ensures) ∙ is_some-copied c.reserved_name.result ∙ sym c.is_some-has_earlier.ensures ∙ c.if-has_earlier.true in
    rw (c.shift_remove_index.ensures.entries, c.in_ok-add_name.ensures.ok, c.count_sessions-earlier.ensures, c.in-Some.ensures.value) (reserved-renew name_in es c.args.name.now c.requires.sessions.fits earlier)

pub returns-then-has_earlier-clause-same : goal.returns-then-has_earlier-clause-same
returns-then-has_earlier-clause-same c =
    let es = c.args.sessions.now.entries in
    let earlier : is_some (reserved es) ≡ true = ap is_some (sym c.reserved_name.ensures) ∙ is_some-copied c.reserved_name.result ∙ sym c.is_some-has_earlier.ensures ∙ c.if-has_earlier.true in
    rw (c.shift_remove_index.ensures.entries, c.in_ok-add_name.ensures.ok, c.count_sessions-earlier.ensures, c.in-Some.ensures.value) (shown-renew name_in es c.args.name.now c.requires.sessions.fits earlier)

pub returns-then-has_earlier-clause-sessions : goal.returns-then-has_earlier-clause-sessions
returns-then-has_earlier-clause-sessions c =
    let es = c.args.sessions.now.entries in
    let earlier : is_some (reserved es) ≡ true = ap is_some (sym c.reserved_name.ensures) ∙ is_some-copied c.reserved_name.result ∙ sym c.is_some-has_earlier.ensures ∙ c.if-has_earlier.true in
    rw (c.shift_remove_index.ensures.entries, c.in_ok-add_name.ensures.ok, c.count_sessions-earlier.ensures, c.in-Some.ensures.value) (record {
      fits = Fits-renew name_in es c.args.name.now c.requires.sessions.fits earlier;
      named = subst (λ (ss : List Session). AreNamed ss) (sym (shown-renew name_in es c.args.name.now c.requires.sessions.fits earlier)) c.requires.sessions.named;
    })

pub returns-else-has_earlier-clause-ok : goal.returns-else-has_earlier-clause-ok
returns-else-has_earlier-clause-ok c =
    let es = c.args.sessions.now.entries in
    let none = none_from (reserved es) (ap is_some (sym c.reserved_name.ensures) ∙ is_some-copied c.reserved_name.result ∙ sym c.is_some-has_earlier.ensures ∙ c.if-has_earlier.false) in
    rw (c.in_ok-add_name.ensures.ok, c.in-Some.ensures.value) (reserved-push name_in es c.args.name.now none)

pub returns-else-has_earlier-clause-same : goal.returns-else-has_earlier-clause-same
returns-else-has_earlier-clause-same c = rw (c.in_ok-add_name.ensures.ok, c.in-Some.ensures.value) (shown-push name_in c.args.sessions.now.entries c.args.name.now)

pub returns-else-has_earlier-clause-sessions : goal.returns-else-has_earlier-clause-sessions
returns-else-has_earlier-clause-sessions c =
    let es = c.args.sessions.now.entries in
    let none = none_from (reserved es) (ap is_some (sym c.reserved_name.ensures) ∙ is_some-copied c.reserved_name.result ∙ sym c.is_some-has_earlier.ensures ∙ c.if-has_earlier.false) in
    rw (c.in_ok-add_name.ensures.ok, c.in-Some.ensures.value) (record {
      fits = Fits-push name_in es c.args.name.now none c.requires.sessions.fits;
      named = subst (λ (ss : List Session). AreNamed ss) (sym (shown-push name_in es c.args.name.now)) c.requires.sessions.named;
    })

use Rattle.std.proofs.Common.{◌∙◌, ap, sym}
use Rattle.worksheet.specs.Checks.{session_named}
use Rattle.worksheet.specs.inside.Entries.{shown}
use Rattle.worksheet.proofs.Lookup.{flat}
use Rattle.worksheet.proofs.NamedSessions.{found_named, unnamed}
use Rattle.worksheet.proofs.session_map.session_with.Goals as goal

pub returns-in-Some : goal.returns-in-Some
returns-in-Some c =
    c.as_ref.ensures.value ∙ ap flat c.in-Some.ensures.value ∙ found_named c.args.sessions.now.entries c.in_ok-name.name c.requires
    ∙ ap (session_named (shown c.args.sessions.now.entries)) c.in_ok-name.ensures.value

pub returns-in-None : goal.returns-in-None
returns-in-None c =
    ap flat c.in-None.ensures.value ∙ found_named c.args.sessions.now.entries c.in_ok-name.name c.requires
    ∙ ap (session_named (shown c.args.sessions.now.entries)) c.in_ok-name.ensures.value

pub returns-in_err-name : goal.returns-in_err-name
returns-in_err-name c = rw c.from_residual.ensures (sym (unnamed (shown c.args.sessions.now.entries) c.args.name.now c.requires.named (λ named. let some = c.in_err-name.ensures.valid.1 named in cc)))

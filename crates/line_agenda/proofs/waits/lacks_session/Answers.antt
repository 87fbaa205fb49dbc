use Rattle.std.proofs.Common.{◌∙◌, ap, not}
use Rattle.std.specs.Prelude.{Option, is_some}
use Rattle.worksheet.specs.Checks.{session_named}
use Rattle.worksheet.specs.declared.field.Session.{Session}
use Rattle.line_agenda.proofs.waits.lacks_session.Goals as goal

pub returns-in-None : goal.returns-in-None
returns-in-None g c = λ w h.
    ap (λ (found : Option Session). not (is_some found))
    (c.in-None.ensures ∙ ap (λ bytes. session_named c.sheet.result.now.contents.sessions bytes) c.as_slice.ensures.bytes ∙ ap (λ s. session_named s.sessions c.args.name) (c.sheet.ensures.stands w h))

pub returns-in-Some : goal.returns-in-Some
returns-in-Some g c = λ w h.
    ap (λ (found : Option Session). not (is_some found))
    (c.in-Some.ensures ∙ ap (λ bytes. session_named c.sheet.result.now.contents.sessions bytes) c.as_slice.ensures.bytes ∙ ap (λ s. session_named s.sessions c.args.name) (c.sheet.ensures.stands w h))

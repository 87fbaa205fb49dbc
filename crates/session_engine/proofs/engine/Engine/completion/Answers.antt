use Rattle.std.proofs.Common.{◌≡◌, ℕ, ap, sym, ◌∙◌, None}
use Rattle.worksheet.specs.Checks.{first_of}
use Rattle.worksheet.proofs.Finds.{field_in-id}
use Rattle.plugin_core.specs.declared.item.Item.TheVariants as item
use Rattle.session_engine.specs.World.{sheet_in}
use Rattle.session_engine.specs.Refused.{cursor_refusals, tab_refusals}
use Rattle.session_engine.proofs.Completing.{input_asked}
use Rattle.session_engine.proofs.engine.Engine.completion.Goals as goal

pub returns-in-Ok-request_of-clause-ok : goal.returns-in-Ok-request_of-clause-ok
returns-in-Ok-request_of-clause-ok g c = λ w h.
    let id = c.args.id in
    let cursor = c.args.cursor in
    let f = c.in-Ok.field.now in
    let here = c.in-Ok.ensures.ok w h in
    let tab : first_of (tab_refusals w id) ≡ None = sym (c.in-Ok.ensures.refuses w h) in
    let none : first_of (cursor_refusals w f.session f.input cursor) ≡ None = sym (c.in_default.ensures.refuses w h) in
    let same_id : f.id ≡ id = field_in-id (sheet_in w).fields id f here in
    input_asked w id cursor f here tab c.in-Ok-request_of.item (c.in-Ok-request_of.ensures ∙ ap (λ (k : ℕ). item.Complete k f.input cursor) same_id) none

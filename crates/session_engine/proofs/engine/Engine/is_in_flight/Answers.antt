use Rattle.std.proofs.Common.{◌≡◌, ap, sym, ◌∙◌, Some, None}
use Rattle.worksheet.specs.Contents.{SheetView, Contents}
use Rattle.worksheet.specs.Checks.{field_in}
use Rattle.session_engine.specs.World.{sheet_in}
use Rattle.session_engine.proofs.Waiting.{in_flight_by, none_in_flight}
use Rattle.session_engine.proofs.engine.Engine.is_in_flight.Goals as goal

pub returns-in-Some : goal.returns-in-Some
returns-in-Some g c = λ w h.
    let id = c.args.id in
    let f = c.in-Some.field.now in
    let here : field_in (sheet_in w).fields id ≡ Some f =
    sym (c.in-Some.ensures ∙ ap (λ (l : SheetView). field_in l.contents.fields id) c.sheet.ensures.sheet ∙ ap (λ (x : Contents). field_in x.fields id) h.contents) in
    c.waits_of.ensures w.lives h.lives_are ∙ sym (in_flight_by c.args.self.now.store c.args.self.now.lives.items c.args.self.now.begun w id h f here)

pub returns-in-None : goal.returns-in-None
returns-in-None g c = λ w h.
    let id = c.args.id in
    let here : field_in (sheet_in w).fields id ≡ None =
    sym (c.in-None.ensures ∙ ap (λ (l : SheetView). field_in l.contents.fields id) c.sheet.ensures.sheet ∙ ap (λ (x : Contents). field_in x.fields id) h.contents) in
    sym (none_in_flight c.args.self.now.store c.args.self.now.lives.items c.args.self.now.begun w id h here)

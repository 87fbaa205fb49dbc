use Rattle.std.proofs.Common.{get_or, inl, refl}
use Rattle.field_agenda.specs.Says.{asks, ends}
use Rattle.field_agenda.proofs.Choices.{asked_there, ends_there, read_at}
use Rattle.field_agenda.proofs.by_fields.ByFields.ask_next.Goals as goal

pub returns-in-Some : goal.returns-in-Some
returns-in-Some g c = λ w h.
    let a = c.args.self.now in
    let at = c.in-Some.at in
    let id = get_or a.ids at 0 in
    let there = read_at c.as_slice.result.now a.ids at c.as_slice.ensures c.in-Some.ensures.within in
    asks at id (
      asked_there a.plan c.sheet.result.now.contents _ c.as_slice.result.now a.ids a.stand at id (c.sheet.ensures.stands w h) c.as_slice.ensures
          (c.in-Some.ensures.next id) there,
      inl c.requires.free,
    )
    (c.ask.ensures w id h there)

pub returns-in-None : goal.returns-in-None
returns-in-None g c = λ w h.
    let a = c.args.self.now in
    let e = c.in-None.ensures.ends refl in
    let here = ends_there a.plan c.sheet.result.now.contents _ c.as_slice.result.now a.ids a.stand e.0 (c.sheet.ensures.stands w h) c.as_slice.ensures e.1 in
    ends e.0 c.requires.free here (c.end.ensures w e.0 h here)

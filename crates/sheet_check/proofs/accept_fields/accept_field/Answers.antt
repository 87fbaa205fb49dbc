use Rattle.std.proofs.Common.{◌≡◌, ◌∙◌, false, inr, sym, true}
use Rattle.child_edge.specs.Faithful.{at}
use Rattle.sheet_check.specs.Evaluated.{way}
use Rattle.sheet_check.specs.inside.Accepting.{putting}
use Rattle.sheet_check.proofs.Accepted.{checked_took, passed_took}
use Rattle.sheet_check.proofs.accept_fields.accept_field.Goals as goal

pub returns-then-not-has-clause-ok : goal.returns-then-not-has-clause-ok
returns-then-not-has-clause-ok g c = λ w h.
    passed_took (way g.C.Children.after g.C.Sources.clock g.C.Sources.wakes c.args.place.now.manner.request.now.limit) c.args.place.now.manner.request.now.chosen c.args.place.now.field.now w c.args.driver.now.host c.args.driver.now.sources (g.W.Write.contents c.args.writer.now) c.args.store.now c.args.place.now.counts (sym c.has.ensures ∙ c.if-not-has.true) h

pub returns-in-Ok-clause-ok : goal.returns-in-Ok-clause-ok
returns-in-Ok-clause-ok g c = λ w h.
    checked_took (way g.C.Children.after g.C.Sources.clock g.C.Sources.wakes c.args.place.now.manner.request.now.limit) c.args.place.now.manner.request.now.chosen c.args.place.now.field.now (at w c.args.driver.now.sources c.args.driver.now.host.store.disk) c.accept_shown.new.driver.host c.accept_shown.new.driver.sources (g.W.Write.contents c.args.writer.now)
    (g.W.Write.contents c.accept_shown.new.writer) (putting c.args.store.now c.accept_shown.new.store) c.args.place.now.counts c.counted.result c.in-Ok.judgement
    (sym c.has.ensures ∙ c.if-not-has.false) (c.in-Ok.ensures.ok w h)
    c.counted.ensures.counted

pub returns-then-not-has-clause-stamped : goal.returns-then-not-has-clause-stamped
returns-then-not-has-clause-stamped g c = λ some.
    let no : false ≡ true = sym (sym c.has.ensures ∙ c.if-not-has.true) ∙ some in
    cc

pub returns-in-Ok-clause-shown : goal.returns-in-Ok-clause-shown
returns-in-Ok-clause-shown g c = inr (c.in-Ok.judgement, c.accept_shown.new.progress, c.counted.ensures.counted, c.in-Ok.ensures.room, c.counted.ensures.shown)

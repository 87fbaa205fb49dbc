use Rattle.std.proofs.Common.{◌∙◌, ◌+◌, inr, refl, sym}
use Rattle.child_edge.specs.Faithful.{at}
use Rattle.check_report.specs.Verdicts.{total}
use Rattle.sheet_check.specs.Evaluated.{one_by_one, way}
use Rattle.sheet_check.proofs.Fields.{field_checked, field_passed}
use Rattle.sheet_check.proofs.checking.check_field.Goals as goal

pub returns-then-not-has-clause-ok : goal.returns-then-not-has-clause-ok
returns-then-not-has-clause-ok g c = λ w h.
    field_passed (one_by_one (way g.C.Children.after g.C.Sources.clock g.C.Sources.wakes c.args.place.now.manner.request.now.limit) c.args.place.now.manner.request.now.chosen c.args.place.now.manner.request.now.format) c.args.place.now.field.now w c.args.driver.now.host c.args.driver.now.sources (g.W.Write.contents c.args.writer.now) c.args.place.now.counts (sym c.has.ensures ∙ c.if-not-has.true) h

pub returns-in-Ok-clause-ok : goal.returns-in-Ok-clause-ok
returns-in-Ok-clause-ok g c = λ w h.
    field_checked (one_by_one (way g.C.Children.after g.C.Sources.clock g.C.Sources.wakes c.args.place.now.manner.request.now.limit) c.args.place.now.manner.request.now.chosen c.args.place.now.manner.request.now.format) (total c.args.place.now.counts + 1) c.args.place.now.field.now (at w c.args.driver.now.sources c.args.driver.now.host.store.disk) c.check_shown.new.driver.host c.check_shown.new.driver.sources (g.W.Write.contents c.args.writer.now)
    (g.W.Write.contents c.check_shown.new.writer) c.args.place.now.counts c.counted.result c.in-Ok.judgement (sym c.has.ensures ∙ c.if-not-has.false)
    (c.in-Ok.ensures.ok w h) refl c.counted.ensures.counted

pub returns-in-Ok-clause-shown : goal.returns-in-Ok-clause-shown
returns-in-Ok-clause-shown g c = inr (c.in-Ok.judgement, c.check_shown.new.progress, c.counted.ensures.counted, c.in-Ok.ensures.room, c.counted.ensures.shown)

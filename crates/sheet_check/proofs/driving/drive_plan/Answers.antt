use Rattle.sheet_check.specs.Evaluated.{way}
use Rattle.sheet_check.proofs.Driven.{plan_broke, plan_driven}
use Rattle.sheet_check.proofs.driving.drive_plan.Goals as goal

pub returns-clause-ok : goal.returns-clause-ok
returns-clause-ok g c = λ w limit h.
    let did = c.drive.ensures.did w h in
    plan_driven (way g.C.Children.after g.C.Sources.clock g.C.Sources.wakes limit) _ c.args.plan w c.args.driver.now.host c.drive.new.self.host c.args.driver.now.sources c.drive.new.self.sources did.0 _ c.drive.new.self.sink _ c.drive.new.self.agenda
    c.no_marks.ensures c.new.ensures c.drive.result did.1

pub returns-clause-err : goal.returns-clause-err
returns-clause-err g c = λ w limit h.
    let did = c.drive.ensures.did w h in
    plan_broke (way g.C.Children.after g.C.Sources.clock g.C.Sources.wakes limit) _ c.args.plan w c.args.driver.now.host c.drive.new.self.host c.args.driver.now.sources c.drive.new.self.sources did.0 _ c.drive.new.self.sink _ c.drive.new.self.agenda
    c.no_marks.ensures c.new.ensures c.drive.result did.1

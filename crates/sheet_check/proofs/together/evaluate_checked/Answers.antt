use Rattle.std.proofs.Common.{◌∙◌, ap, refl}
use Rattle.child_edge.specs.Faithful.{at}
use Rattle.offline_programs.specs.declared.fault.RunFault.TheVariants as fault
use Rattle.sheet_check.specs.Driven.{unplanned}
use Rattle.sheet_check.specs.Evaluated.{way}
use Rattle.sheet_check.specs.Driven.{checking_plan}
use Rattle.sheet_check.specs.Together.{side_by_side}
use Rattle.sheet_check.proofs.Compared.{broke_together, came_together}
use Rattle.sheet_check.proofs.together.evaluate_checked.Goals as goal

pub returns-in-Ok-drive_plan-clause-ok : goal.returns-in-Ok-drive_plan-clause-ok
returns-in-Ok-drive_plan-clause-ok g c = λ w h.
    came_together (side_by_side (way g.C.Children.after g.C.Sources.clock g.C.Sources.wakes c.args.beside.now.manner.request.now.limit) c.args.beside.now.jobs c.args.beside.now.manner.request.now.chosen c.args.beside.now.manner.request.now.format) c.args.sheet.now.contents.fields (at w c.args.driver.now.sources c.args.driver.now.host.store.disk)
    c.drive_plan.new.driver.host c.drive_plan.new.driver.sources c.checking_plan-plan.result
    (c.checking_plan-plan.ensures ∙ ap (λ ids. checking_plan ids c.args.beside.now.manner.request.now.limit c.args.beside.now.jobs) c.in-Ok.ensures) c.drive_plan.new.driver.sink.kept (c.in-Ok-drive_plan.ensures.ok w c.args.beside.now.manner.request.now.limit h)

pub returns-in-Err-clause-err : goal.returns-in-Err-clause-err
returns-in-Err-clause-err g c = λ w h.
    broke_together (side_by_side (way g.C.Children.after g.C.Sources.clock g.C.Sources.wakes c.args.beside.now.manner.request.now.limit) c.args.beside.now.jobs c.args.beside.now.manner.request.now.chosen c.args.beside.now.manner.request.now.format) c.args.sheet.now.contents.fields (at w c.args.driver.now.sources c.args.driver.now.host.store.disk)
    c.drive_plan.new.driver.host c.drive_plan.new.driver.sources c.checking_plan-plan.result
    (c.checking_plan-plan.ensures ∙ ap (λ ids. checking_plan ids c.args.beside.now.manner.request.now.limit c.args.beside.now.jobs) c.in-Ok.ensures) c.in-Err.fault c.copy_fault.result c.copy_fault.ensures (c.in-Err.ensures.err w c.args.beside.now.manner.request.now.limit h)

pub returns-in_default-clause-err : goal.returns-in_default-clause-err
returns-in_default-clause-err g c = λ w h. (fault.OutOfMemory, refl, unplanned refl refl h)

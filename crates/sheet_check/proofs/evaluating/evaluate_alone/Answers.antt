use Rattle.std.proofs.Common.{◌≡◌, ◌∙◌, List, ap, false, refl, subst, true}
use Rattle.std.proofs.lemmas.Result.{IfErr-weaker, IfOk-weaker}
use Rattle.child_edge.specs.Faithful.{at}
use Rattle.offline_programs.specs.declared.fault.RunFault.TheVariants as fault
use Rattle.sheet_check.specs.Driven.{checking_plan, unplanned}
use Rattle.sheet_check.specs.Evaluated.{way}
use Rattle.sheet_check.specs.Fields.{comes_by}
use Rattle.sheet_check.specs.Marks.{lacked_memory}
use Rattle.sheet_check.specs.declared.marks.Mark.{Mark}
use Rattle.sheet_check.specs.inside.Checking.{halted, unremembered}
use Rattle.sheet_check.proofs.Fields.{broke_alone, came_alone}
use Rattle.sheet_check.proofs.evaluating.evaluate_alone.Goals as goal

pub returns-in-Ok-drive_plan-clause-ok : goal.returns-in-Ok-drive_plan-clause-ok
returns-in-Ok-drive_plan-clause-ok g c = λ w h.
    let is = c.checking_plan.ensures ∙ ap (λ ids. checking_plan ids c.args.limit 1) c.in-Ok.ensures in
    let q = came_alone (way g.C.Children.after g.C.Sources.clock g.C.Sources.wakes c.args.limit) c.args.id
    (at w c.args.driver.now.sources c.args.driver.now.host.store.disk) c.drive_plan.new.driver.host c.drive_plan.new.driver.sources
    c.checking_plan.result is c.drive_plan.new.driver.sink.kept (c.in-Ok-drive_plan.ensures.ok w c.args.limit h) in
    IfOk-weaker c.remembered.result _ _
    (λ came p.
    let so = subst (λ (marks : List Mark). (came ≡ comes_by marks c.args.id) × (lacked_memory marks ≡ false)) c.as_slice.ensures p in
    ((q, so.1), so.0))
    c.remembered.ensures.ok

pub returns-in-Ok-drive_plan-clause-err : goal.returns-in-Ok-drive_plan-clause-err
returns-in-Ok-drive_plan-clause-err g c = λ w h.
    let is = c.checking_plan.ensures ∙ ap (λ ids. checking_plan ids c.args.limit 1) c.in-Ok.ensures in
    let q = came_alone (way g.C.Children.after g.C.Sources.clock g.C.Sources.wakes c.args.limit) c.args.id
    (at w c.args.driver.now.sources c.args.driver.now.host.store.disk) c.drive_plan.new.driver.host c.drive_plan.new.driver.sources
    c.checking_plan.result is c.drive_plan.new.driver.sink.kept (c.in-Ok-drive_plan.ensures.ok w c.args.limit h) in
    IfErr-weaker c.remembered.result _ _
    (λ why p. unremembered c.drive_plan.new.driver.sink.kept p.0 (subst (λ (marks : List Mark). lacked_memory marks ≡ true) c.as_slice.ensures p.1) q)
    c.remembered.ensures.err

pub returns-in-Err-clause-err : goal.returns-in-Err-clause-err
returns-in-Err-clause-err g c = λ w h.
    let is = c.checking_plan.ensures ∙ ap (λ ids. checking_plan ids c.args.limit 1) c.in-Ok.ensures in
    broke_alone (way g.C.Children.after g.C.Sources.clock g.C.Sources.wakes c.args.limit) c.args.id
    (at w c.args.driver.now.sources c.args.driver.now.host.store.disk) c.drive_plan.new.driver.host c.drive_plan.new.driver.sources
    c.checking_plan.result is c.in-Err.fault c.copy_fault.result c.copy_fault.ensures (c.in-Err.ensures.err w c.args.limit h)

pub returns-in_default-clause-err : goal.returns-in_default-clause-err
returns-in_default-clause-err g c = λ w h. halted fault.OutOfMemory refl tt (unplanned refl refl h)

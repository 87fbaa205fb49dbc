use Rattle.std.proofs.Common.{◌+◌, [], ◌∷◌, subst, Ok, Err, true, arith}
use Rattle.std.specs.Prelude.{Bool}
use Rattle.driver.specs.Place.{agenda_rules, rules, source_rules}
use Rattle.child_edge.proofs.Faulting.{same-at, same-on}
use Rattle.driver.specs.Items.{ask}
use Rattle.driver.specs.Runs.{DidSteps, again, left_by_answer, parts, seen}
use Rattle.driver.proofs.Doing.{asked_too_often, did_end, not_begun}
use Rattle.driver.proofs.Running.{did_fail, did_then}
use Rattle.driver.proofs.driver.Driver.go_on.Goals as goal

pub loop-init : goal.loop-init
loop-init g c =
    let R = rules (agenda_rules g.A.Agenda.rules g.A.Joins.joins) (source_rules g.S.Children.after g.S.Sources.wakes g.S.Sources.clock) g.K.Sink.rules in
    let here = parts c.args.self.now.host c.args.self.now.sources c.args.self.now.sink c.args.self.now.agenda in
    record { same = same-at c.args.self.now.host.store.disk; did = λ w h. not_begun R w here h }

pub loop-preserved : goal.loop-preserved
loop-preserved g c =
    let R = rules (agenda_rules g.A.Agenda.rules g.A.Joins.joins) (source_rules g.S.Children.after g.S.Sources.wakes g.S.Sources.clock) g.K.Sink.rules in
    let here = parts c.args.self.now.host c.args.self.now.sources c.args.self.now.sink c.args.self.now.agenda in
    record { same = same-on c.args.self.now.host.store.disk c.loop.self.host.store.disk c.step.new.self.host.store.disk c.loop.invariant.same c.step.ensures.same; did = λ w h. let so = c.loop.invariant.did w h in did_then R (seen 0 w here) (ask ∷ []) again true c.loop.counter (parts c.loop.self.host c.loop.self.sources c.loop.self.sink c.loop.self.agenda) (left_by_answer again) (Ok true) (c.loop.counter + 1, (parts c.step.new.self.host c.step.new.self.sources c.step.new.self.sink c.step.new.self.agenda)) so (subst (λ (b : Bool). DidSteps R (seen c.loop.counter so.world (parts c.loop.self.host c.loop.self.sources c.loop.self.sink c.loop.self.agenda)) (ask ∷ []) (left_by_answer again) (Ok b) (c.loop.counter + 1, (parts c.step.new.self.host c.step.new.self.sources c.step.new.self.sink c.step.new.self.agenda))) c.in-Ok-true.field-0-test (c.in-Ok-true.ensures.did c.loop.counter so.world so.stands)) }

pub returns-in-Ok-false-clause-same : goal.returns-in-Ok-false-clause-same
returns-in-Ok-false-clause-same g c = same-on c.args.self.now.host.store.disk c.loop.self.host.store.disk c.step.new.self.host.store.disk c.loop.invariant.same c.step.ensures.same

pub returns-in-Ok-false-clause-did : goal.returns-in-Ok-false-clause-did
returns-in-Ok-false-clause-did g c =
    let R = rules (agenda_rules g.A.Agenda.rules g.A.Joins.joins) (source_rules g.S.Children.after g.S.Sources.wakes g.S.Sources.clock) g.K.Sink.rules in
    let here = parts c.args.self.now.host c.args.self.now.sources c.args.self.now.sink c.args.self.now.agenda in
    λ w h. let so = c.loop.invariant.did w h in (
      c.loop.counter + 1,
      did_then R (seen 0 w here) (ask ∷ []) again true c.loop.counter
          (parts c.loop.self.host c.loop.self.sources c.loop.self.sink c.loop.self.agenda) (left_by_answer (λ done. [])) _
          (c.loop.counter + 1, (parts c.step.new.self.host c.step.new.self.sources c.step.new.self.sink c.step.new.self.agenda)) so
          (did_end R (seen c.loop.counter so.world (parts c.loop.self.host c.loop.self.sources c.loop.self.sink c.loop.self.agenda)) (ask ∷ []) _
          (c.loop.counter + 1, (parts c.step.new.self.host c.step.new.self.sources c.step.new.self.sink c.step.new.self.agenda))
          (subst (λ (b : Bool). DidSteps R (seen c.loop.counter so.world (parts c.loop.self.host c.loop.self.sources c.loop.self.sink c.loop.self.agenda))
          (ask ∷ []) (left_by_answer again) (Ok b) (
            c.loop.counter + 1,
            (parts c.step.new.self.host c.step.new.self.sources c.step.new.self.sink c.step.new.self.agenda),
          )) c.in-Ok-false.field-0-test
          (c.in-Ok-false.ensures.did c.loop.counter so.world so.stands))),
    )

pub returns-in-Err-clause-same : goal.returns-in-Err-clause-same
returns-in-Err-clause-same g c = same-on c.args.self.now.host.store.disk c.loop.self.host.store.disk c.step.new.self.host.store.disk c.loop.invariant.same c.step.ensures.same

pub returns-in-Err-clause-did : goal.returns-in-Err-clause-did
returns-in-Err-clause-did g c =
    let R = rules (agenda_rules g.A.Agenda.rules g.A.Joins.joins) (source_rules g.S.Children.after g.S.Sources.wakes g.S.Sources.clock) g.K.Sink.rules in
    let here = parts c.args.self.now.host c.args.self.now.sources c.args.self.now.sink c.args.self.now.agenda in
    λ w h. let so = c.loop.invariant.did w h in (
      c.loop.counter + 1,
      did_then R (seen 0 w here) (ask ∷ []) again true c.loop.counter
          (parts c.loop.self.host c.loop.self.sources c.loop.self.sink c.loop.self.agenda) (left_by_answer (λ done. [])) (Err c.in-Err.why)
          (c.loop.counter + 1, (parts c.step.new.self.host c.step.new.self.sources c.step.new.self.sink c.step.new.self.agenda)) so
          (did_fail R (seen c.loop.counter so.world (parts c.loop.self.host c.loop.self.sources c.loop.self.sink c.loop.self.agenda))
          (ask ∷ []) again (λ done. []) c.in-Err.why (
            c.loop.counter + 1,
            (parts c.step.new.self.host c.step.new.self.sources c.step.new.self.sink c.step.new.self.agenda),
          )
          (c.in-Err.ensures.did c.loop.counter so.world so.stands)),
    )

pub returns-clause-same : goal.returns-clause-same
returns-clause-same g c = c.loop.invariant.same

pub returns-clause-did : goal.returns-clause-did
returns-clause-did g c =
    let R = rules (agenda_rules g.A.Agenda.rules g.A.Joins.joins) (source_rules g.S.Children.after g.S.Sources.wakes g.S.Sources.clock) g.K.Sink.rules in
    let here = parts c.args.self.now.host c.args.self.now.sources c.args.self.now.sink c.args.self.now.agenda in
    λ w h. let so = c.loop.invariant.did w h in (
      c.loop.counter,
      did_then R (seen 0 w here) (ask ∷ []) again true c.loop.counter
          (parts c.loop.self.host c.loop.self.sources c.loop.self.sink c.loop.self.agenda) (left_by_answer (λ done. [])) _
          (c.loop.counter, (parts c.loop.self.host c.loop.self.sources c.loop.self.sink c.loop.self.agenda)) so
          (asked_too_often R c.loop.counter so.world (parts c.loop.self.host c.loop.self.sources c.loop.self.sink c.loop.self.agenda) (λ done. []) so.stands
          (omega (arith, c.loop-test.false))),
    )

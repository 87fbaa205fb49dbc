use Rattle.std.proofs.Common.{◌+◌, ◌≤◌, [], ◌∷◌, ◌++◌, Option, Some, Ok, Err, sym, subst, refl, arith}
use Rattle.host_events.specs.declared.event.Event.{Event}
use Rattle.child_edge.specs.inside.Ranks.{rank}
use Rattle.child_edge.proofs.Faulting.{same-at, same-on}
use Rattle.child_edge.proofs.Ranks.{rank-most, rank-none, rank-on}
use Rattle.driver.specs.Place.{agenda_rules, rules, source_rules}
use Rattle.driver.specs.Items.{take_alone, taking_due}
use Rattle.driver.specs.Runs.{DidSteps, left_by_answer, parts, seen}
use Rattle.driver.proofs.Singly.{nothing_due}
use Rattle.driver.proofs.Running.{did_fail, did_none, did_then}
use Rattle.driver.proofs.driver.Driver.take_alone.Goals as goal

pub loop-init : goal.loop-init
loop-init g c =
    let R = rules (agenda_rules g.A.Agenda.rules g.A.Joins.joins) (source_rules g.S.Children.after g.S.Sources.wakes g.S.Sources.clock) g.K.Sink.rules in
    let here = parts c.args.self.now.host c.args.self.now.sources c.args.self.now.sink c.args.self.now.agenda in
    record {
      same = same-at c.args.self.now.host.store.disk;
      few = λ w h. omega (arith, rank-most c.args.event);
      did = λ n rest w h. did_none R w here n (take_alone c.args.event ∷ rest) (left_by_answer (λ (due : Option Event). taking_due due ++ rest)) (Ok (Some c.args.event)) refl h;
    }

pub loop-preserved : goal.loop-preserved
loop-preserved g c =
    let R = rules (agenda_rules g.A.Agenda.rules g.A.Joins.joins) (source_rules g.S.Children.after g.S.Sources.wakes g.S.Sources.clock) g.K.Sink.rules in
    let here = parts c.args.self.now.host c.args.self.now.sources c.args.self.now.sink c.args.self.now.agenda in
    record {
      same = same-on c.args.self.now.host.store.disk c.loop.self.host.store.disk c.take_one.new.self.host.store.disk c.loop.invariant.same c.take_one.ensures.same;
      few = λ w h. let so = c.loop.invariant.did 0 [] w h in rank-on c.loop.due c.in-Ok.next c.in-Ok.next c.in-Some.event c.loop.counter c.in-Some.is refl
          (c.in-Ok.ensures.less so.world so.stands) (c.loop.invariant.few w h);
      did = λ n rest w h. let so = c.loop.invariant.did n rest w h in
          did_then R (seen n w here) (take_alone c.args.event ∷ rest) (λ (due : Option Event). taking_due due ++ rest) c.loop.due n
          (parts c.loop.self.host c.loop.self.sources c.loop.self.sink c.loop.self.agenda) (left_by_answer (λ (due : Option Event). taking_due due ++ rest))
          (Ok c.in-Ok.next) (n, (parts c.take_one.new.self.host c.take_one.new.self.sources c.take_one.new.self.sink c.take_one.new.self.agenda)) so
          (subst (λ (due : Option Event). DidSteps R (seen n so.world (parts c.loop.self.host c.loop.self.sources c.loop.self.sink c.loop.self.agenda))
          (taking_due due ++ rest) (left_by_answer (λ (due : Option Event). taking_due due ++ rest)) (Ok c.in-Ok.next)
          (n, (parts c.take_one.new.self.host c.take_one.new.self.sources c.take_one.new.self.sink c.take_one.new.self.agenda))) (sym c.in-Some.is)
          (c.in-Ok.ensures.did n rest so.world so.stands));
    }

pub returns-in_default-clause-same : goal.returns-in_default-clause-same
returns-in_default-clause-same g c = c.loop.invariant.same

pub returns-in_default-clause-did : goal.returns-in_default-clause-did
returns-in_default-clause-did g c =
    let R = rules (agenda_rules g.A.Agenda.rules g.A.Joins.joins) (source_rules g.S.Children.after g.S.Sources.wakes g.S.Sources.clock) g.K.Sink.rules in
    let here = parts c.args.self.now.host c.args.self.now.sources c.args.self.now.sink c.args.self.now.agenda in
    λ n rest w h. nothing_due R n rest (seen n w here) (take_alone c.args.event ∷ rest) c.loop.due
    (parts c.loop.self.host c.loop.self.sources c.loop.self.sink c.loop.self.agenda) c.in_default.is (c.loop.invariant.did n rest w h)

pub returns-in-Err-clause-same : goal.returns-in-Err-clause-same
returns-in-Err-clause-same g c = same-on c.args.self.now.host.store.disk c.loop.self.host.store.disk c.take_one.new.self.host.store.disk c.loop.invariant.same c.take_one.ensures.same

pub returns-in-Err-clause-did : goal.returns-in-Err-clause-did
returns-in-Err-clause-did g c =
    let R = rules (agenda_rules g.A.Agenda.rules g.A.Joins.joins) (source_rules g.S.Children.after g.S.Sources.wakes g.S.Sources.clock) g.K.Sink.rules in
    let here = parts c.args.self.now.host c.args.self.now.sources c.args.self.now.sink c.args.self.now.agenda in
    λ n rest w h. let so = c.loop.invariant.did n rest w h in
    did_then R (seen n w here) (take_alone c.args.event ∷ rest) (λ (due : Option Event). taking_due due ++ rest) c.loop.due n
    (parts c.loop.self.host c.loop.self.sources c.loop.self.sink c.loop.self.agenda) (left_by_answer (λ (done : Unit {0}). rest)) (Err c.in-Err.why)
    (n, (parts c.take_one.new.self.host c.take_one.new.self.sources c.take_one.new.self.sink c.take_one.new.self.agenda)) so
    (subst (λ (due : Option Event). DidSteps R (seen n so.world (parts c.loop.self.host c.loop.self.sources c.loop.self.sink c.loop.self.agenda))
    (taking_due due ++ rest) (left_by_answer (λ (done : Unit {0}). rest)) (Err c.in-Err.why)
    (n, (parts c.take_one.new.self.host c.take_one.new.self.sources c.take_one.new.self.sink c.take_one.new.self.agenda))) (sym c.in-Some.is)
    (did_fail R (seen n so.world (parts c.loop.self.host c.loop.self.sources c.loop.self.sink c.loop.self.agenda)) (take_alone c.in-Some.event ∷ rest)
    (λ (due : Option Event). taking_due due ++ rest) (λ (done : Unit {0}). rest) c.in-Err.why
    (n, (parts c.take_one.new.self.host c.take_one.new.self.sources c.take_one.new.self.sink c.take_one.new.self.agenda))
    (c.in-Err.ensures.did n rest so.world so.stands)))

pub returns-clause-same : goal.returns-clause-same
returns-clause-same g c = c.loop.invariant.same

pub returns-clause-did : goal.returns-clause-did
returns-clause-did g c =
    let R = rules (agenda_rules g.A.Agenda.rules g.A.Joins.joins) (source_rules g.S.Children.after g.S.Sources.wakes g.S.Sources.clock) g.K.Sink.rules in
    let here = parts c.args.self.now.host c.args.self.now.sources c.args.self.now.sink c.args.self.now.agenda in
    λ n rest w h.
    let few : rank c.loop.due ≤ 0 = omega (arith, c.loop.invariant.few w h) in
    nothing_due R n rest (seen n w here) (take_alone c.args.event ∷ rest) c.loop.due
    (parts c.loop.self.host c.loop.self.sources c.loop.self.sink c.loop.self.agenda) (rank-none c.loop.due few) (c.loop.invariant.did n rest w h)

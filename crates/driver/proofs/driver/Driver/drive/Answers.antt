use Rattle.std.proofs.Common.{[], ◌∷◌, Err, subst, sym}
use Rattle.offline_programs.specs.declared.fault.RunFault.{RunFault}
use Rattle.driver.specs.Place.{agenda_rules, rules, source_rules}
use Rattle.driver.specs.Items.{ask}
use Rattle.driver.specs.Runs.{DidSteps, left_at_end, left_by_answer, parts, seen}
use Rattle.driver.proofs.Doing.{did_all, did_print_fault, sink_failed}
use Rattle.driver.proofs.driver.Driver.drive.Goals as goal

pub returns-in-Ok-clause-did : goal.returns-in-Ok-clause-did
returns-in-Ok-clause-did g c =
    let R = rules (agenda_rules g.A.Agenda.rules g.A.Joins.joins) (source_rules g.S.Children.after g.S.Sources.wakes g.S.Sources.clock) g.K.Sink.rules in
    let here = parts c.args.self.now.host c.args.self.now.sources c.args.self.now.sink c.args.self.now.agenda in
    λ w h. let so = c.in-Ok.ensures.did w h in (
      so.0,
      did_all R (seen 0 w here) (ask ∷ []) _
          (so.0, (parts c.go_on.new.self.host c.go_on.new.self.sources c.go_on.new.self.sink c.go_on.new.self.agenda)) so.1,
    )

pub returns-then-is_output-clause-did : goal.returns-then-is_output-clause-did
returns-then-is_output-clause-did g c =
    let R = rules (agenda_rules g.A.Agenda.rules g.A.Joins.joins) (source_rules g.S.Children.after g.S.Sources.wakes g.S.Sources.clock) g.K.Sink.rules in
    let here = parts c.args.self.now.host c.args.self.now.sources c.args.self.now.sink c.args.self.now.agenda in
    λ w h.
    let so = c.in-Err.ensures.did w h in
    let is = c.is_output.ensures.yes c.if-is_output.true in (
      so.0,
      subst (λ (y : RunFault). DidSteps {T = Unit {0}} R (seen 0 w here) (ask ∷ []) left_at_end (Err y)
          (so.0, (parts c.go_on.new.self.host c.go_on.new.self.sources c.go_on.new.self.sink c.go_on.new.self.agenda))) (sym is)
          (sink_failed R (seen 0 w here) (ask ∷ []) (λ (x : Unit {0}). []) (so.0, (parts c.go_on.new.self.host c.go_on.new.self.sources c.go_on.new.self.sink c.go_on.new.self.agenda))
          (subst (λ (y : RunFault). DidSteps {T = Unit {0}} R (seen 0 w here) (ask ∷ []) (left_by_answer (λ (x : Unit {0}). [])) (Err y)
          (so.0, (parts c.go_on.new.self.host c.go_on.new.self.sources c.go_on.new.self.sink c.go_on.new.self.agenda))) is so.1)),
    )

pub returns-else-is_output-clause-did : goal.returns-else-is_output-clause-did
returns-else-is_output-clause-did g c =
    let R = rules (agenda_rules g.A.Agenda.rules g.A.Joins.joins) (source_rules g.S.Children.after g.S.Sources.wakes g.S.Sources.clock) g.K.Sink.rules in
    let here = parts c.args.self.now.host c.args.self.now.sources c.args.self.now.sink c.args.self.now.agenda in
    λ w h.
    let so = c.in-Err.ensures.did w h in (
      so.0,
      did_print_fault R (seen 0 w here) (ask ∷ [])
          (λ (x : Unit {0}). []) c.in-Err.why so.0 c.go_on.new.self.host c.go_on.new.self.sources c.go_on.new.self.sink c.print_fault.new.self c.go_on.new.self.agenda c.print_fault.result (c.is_output.ensures.no c.if-is_output.false) c.print_fault.ensures so.1,
    )

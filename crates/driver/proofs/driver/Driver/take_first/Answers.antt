use Rattle.std.proofs.Common.{[], ◌∷◌, ◌++◌, None, Err, subst, sym}
use Rattle.std.specs.declared.alloc.Global.{Global}
use Rattle.std.specs.declared.vec.Vec.{Vec}
use Rattle.host_events.specs.declared.outcome.Outcome.{Outcome}
use Rattle.offline_programs.specs.declared.fault.RunFault.{RunFault}
use Rattle.driver.specs.Place.{agenda_rules, rules, source_rules}
use Rattle.driver.specs.Items.{printing, take_edits}
use Rattle.driver.specs.Runs.{DidSteps, left_by_answer, parts, seen}
use Rattle.driver.proofs.Singly.{did_edits, edits_failed}
use Rattle.driver.proofs.driver.Driver.take_first.Goals as goal

pub returns-in-Ok-clause-did : goal.returns-in-Ok-clause-did
returns-in-Ok-clause-did g c =
    let R = rules (agenda_rules g.A.Agenda.rules g.A.Joins.joins) (source_rules g.S.Children.after g.S.Sources.wakes g.S.Sources.clock) g.K.Sink.rules in
    λ n rest w h. did_edits R n rest w c.args.self.now.host h c.args.self.now.sources c.args.self.now.sink c.args.self.now.agenda c.args.up_to c.args.edits c.serve_edits.new.host c.in-Ok.outcomes (c.in-Ok.ensures.ok w h)

pub returns-in-Err-clause-did : goal.returns-in-Err-clause-did
returns-in-Err-clause-did g c =
    let R = rules (agenda_rules g.A.Agenda.rules g.A.Joins.joins) (source_rules g.S.Children.after g.S.Sources.wakes g.S.Sources.clock) g.K.Sink.rules in
    let here = parts c.args.self.now.host c.args.self.now.sources c.args.self.now.sink c.args.self.now.agenda in
    λ n rest w h.
    subst (λ (why : RunFault). DidSteps R (seen n w here) (take_edits c.args.up_to c.args.edits ∷ rest) (left_by_answer (λ (os : Vec Outcome Global). printing None os.items [] ++ rest)) (Err why)
    (n, parts c.serve_edits.new.host c.args.self.now.sources c.args.self.now.sink c.args.self.now.agenda)) (sym c.edits_fault.ensures)
    (edits_failed R n rest w c.args.self.now.host h c.args.self.now.sources c.args.self.now.sink c.args.self.now.agenda c.args.up_to c.args.edits c.serve_edits.new.host c.in-Err.fault (c.in-Err.ensures.err w h))

use Rattle.std.proofs.Common.{[], ◌∷◌, ◌++◌, None}
use Rattle.std.specs.declared.alloc.Global.{Global}
use Rattle.std.specs.declared.vec.Vec.{Vec}
use Rattle.host_events.specs.declared.outcome.Outcome.{Outcome}
use Rattle.driver.specs.Place.{agenda_rules, rules, source_rules}
use Rattle.driver.specs.Items.{printing, take_edits}
use Rattle.driver.specs.Runs.{left_by_answer, parts, seen}
use Rattle.driver.proofs.Running.{did_fail, did_then}
use Rattle.driver.proofs.driver.Driver.take_edits.Goals as goal

pub returns-in-Ok-clause-did : goal.returns-in-Ok-clause-did
returns-in-Ok-clause-did g c =
    let R = rules (agenda_rules g.A.Agenda.rules g.A.Joins.joins) (source_rules g.S.Children.after g.S.Sources.wakes g.S.Sources.clock) g.K.Sink.rules in
    let here = parts c.args.self.now.host c.args.self.now.sources c.args.self.now.sink c.args.self.now.agenda in
    λ n rest w h. let first = c.in-Ok.ensures.did n rest w h in
    did_then R (seen n w here) (take_edits c.args.up_to c.args.edits ∷ rest) (λ (os : Vec Outcome Global). printing None os.items [] ++ rest) c.in-Ok.outcomes n
    (parts c.take_first.new.self.host c.take_first.new.self.sources c.take_first.new.self.sink c.take_first.new.self.agenda)
    (left_by_answer (λ done. rest)) c.print_edits.result
    (n, (parts c.print_edits.new.self.host c.print_edits.new.self.sources c.print_edits.new.self.sink c.print_edits.new.self.agenda)) first
    (c.print_edits.ensures.did n rest first.world first.stands)

pub returns-in-Err-clause-did : goal.returns-in-Err-clause-did
returns-in-Err-clause-did g c =
    let R = rules (agenda_rules g.A.Agenda.rules g.A.Joins.joins) (source_rules g.S.Children.after g.S.Sources.wakes g.S.Sources.clock) g.K.Sink.rules in
    let here = parts c.args.self.now.host c.args.self.now.sources c.args.self.now.sink c.args.self.now.agenda in
    λ n rest w h.
    did_fail R (seen n w here) (take_edits c.args.up_to c.args.edits ∷ rest) (λ (os : Vec Outcome Global). printing None os.items [] ++ rest)
    (λ done. rest) c.in-Err.why (n, (parts c.take_first.new.self.host c.take_first.new.self.sources c.take_first.new.self.sink c.take_first.new.self.agenda)) (c.in-Err.ensures.did n rest w h)

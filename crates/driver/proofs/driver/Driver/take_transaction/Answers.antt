use Rattle.std.proofs.Common.{◌∷◌, ◌++◌}
use Rattle.driver.specs.Place.{agenda_rules, rules, source_rules}
use Rattle.session_engine.specs.declared.whole.Whole.{Whole}
use Rattle.driver.specs.Items.{take_transaction}
use Rattle.driver.specs.Runs.{left_by_answer, parts, seen}
use Rattle.driver.specs.inside.Wholes.{printing_whole}
use Rattle.driver.proofs.Running.{did_fail, did_then}
use Rattle.driver.proofs.driver.Driver.take_transaction.Goals as goal

pub returns-in-Ok-clause-did : goal.returns-in-Ok-clause-did
returns-in-Ok-clause-did g c =
    let R = rules (agenda_rules g.A.Agenda.rules g.A.Joins.joins) (source_rules g.S.Children.after g.S.Sources.wakes g.S.Sources.clock) g.K.Sink.rules in
    let here = parts c.args.self.now.host c.args.self.now.sources c.args.self.now.sink c.args.self.now.agenda in
    λ n rest w h. let first = c.in-Ok.ensures.did n rest w h in did_then R (seen n w here) (take_transaction c.args.first c.args.edits ∷ rest)
    (λ (x : Whole). printing_whole c.args.first x ++ rest) c.in-Ok.whole n
    (parts c.take_all.new.self.host c.take_all.new.self.sources c.take_all.new.self.sink c.take_all.new.self.agenda)
    (left_by_answer (λ done. rest)) c.print_whole.result
    (n, (parts c.print_whole.new.self.host c.print_whole.new.self.sources c.print_whole.new.self.sink c.print_whole.new.self.agenda)) first
    (c.print_whole.ensures.did n rest first.world first.stands)

pub returns-in-Err-clause-did : goal.returns-in-Err-clause-did
returns-in-Err-clause-did g c =
    let R = rules (agenda_rules g.A.Agenda.rules g.A.Joins.joins) (source_rules g.S.Children.after g.S.Sources.wakes g.S.Sources.clock) g.K.Sink.rules in
    let here = parts c.args.self.now.host c.args.self.now.sources c.args.self.now.sink c.args.self.now.agenda in
    λ n rest w h. did_fail R (seen n w here) (take_transaction c.args.first c.args.edits ∷ rest) (λ (x : Whole). printing_whole c.args.first x ++ rest)
    (λ done. rest) c.in-Err.why (n, (parts c.take_all.new.self.host c.take_all.new.self.sources c.take_all.new.self.sink c.take_all.new.self.agenda))
    (c.in-Err.ensures.did n rest w h)

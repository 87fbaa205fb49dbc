use Rattle.std.proofs.Common.{[], ◌∷◌}
use Rattle.driver.specs.Place.{agenda_rules, rules, source_rules}
use Rattle.driver.specs.Reports.{came, shown}
use Rattle.driver.specs.Items.{heed, print}
use Rattle.driver.specs.Runs.{left_by_answer, parts, seen}
use Rattle.driver.proofs.Running.{did_fail, did_then}
use Rattle.driver.proofs.driver.Driver.show_and_heed.Goals as goal

pub returns-in-Ok-clause-did : goal.returns-in-Ok-clause-did
returns-in-Ok-clause-did g c =
    let R = rules (agenda_rules g.A.Agenda.rules g.A.Joins.joins) (source_rules g.S.Children.after g.S.Sources.wakes g.S.Sources.clock) g.K.Sink.rules in
    let here = parts c.args.self.now.host c.args.self.now.sources c.args.self.now.sink c.args.self.now.agenda in
    λ n rest w h. let first = c.in-Ok.ensures.did n (heed (came [] []) ∷ rest) w h in did_then R (seen n w here)
    (print (shown c.args.show) ∷ heed (came [] []) ∷ rest) (λ done. heed (came [] []) ∷ rest) _ n
    (parts c.show.new.self.host c.show.new.self.sources c.show.new.self.sink c.show.new.self.agenda) (left_by_answer (λ done. rest)) c.heed.result
    (n, (parts c.heed.new.self.host c.heed.new.self.sources c.heed.new.self.sink c.heed.new.self.agenda)) first
    (c.heed.ensures.did n rest first.world first.stands)

pub returns-in-Err-clause-did : goal.returns-in-Err-clause-did
returns-in-Err-clause-did g c =
    let R = rules (agenda_rules g.A.Agenda.rules g.A.Joins.joins) (source_rules g.S.Children.after g.S.Sources.wakes g.S.Sources.clock) g.K.Sink.rules in
    let here = parts c.args.self.now.host c.args.self.now.sources c.args.self.now.sink c.args.self.now.agenda in
    λ n rest w h. did_fail R (seen n w here) (print (shown c.args.show) ∷ heed (came [] []) ∷ rest) (λ done. heed (came [] []) ∷ rest)
    (λ done. rest) c.in-Err.why (n, (parts c.show.new.self.host c.show.new.self.sources c.show.new.self.sink c.show.new.self.agenda))
    (c.in-Err.ensures.did n (heed (came [] []) ∷ rest) w h)

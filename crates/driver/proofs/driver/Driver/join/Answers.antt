use Rattle.std.proofs.Common.{Err, ◌∷◌, arith, subst, sym}
use Rattle.offline_programs.specs.declared.fault.RunFault.{RunFault}
use Rattle.child_edge.specs.declared.joined.GaveJoined.{GaveJoined}
use Rattle.driver.specs.Place.{agenda_rules, rules, source_rules}
use Rattle.driver.specs.Items.{join, printing_joined}
use Rattle.driver.specs.Runs.{DidSteps, left_by_answer, parts, seen}
use Rattle.driver.proofs.Joined.{failed_joined, too_many_lives, took_joined}
use Rattle.driver.proofs.driver.Driver.join.Goals as goal

pub returns-then-len-gt-MOST_TOGETHER-clause-did : goal.returns-then-len-gt-MOST_TOGETHER-clause-did
returns-then-len-gt-MOST_TOGETHER-clause-did g c =
    let R = rules (agenda_rules g.A.Agenda.rules g.A.Joins.joins) (source_rules g.S.Children.after g.S.Sources.wakes g.S.Sources.clock) g.K.Sink.rules in
    λ n rest w h. too_many_lives R n rest w c.args.self.now.host h c.args.self.now.sources c.args.self.now.sink c.args.self.now.agenda c.args.events.items _
    (omega (arith, c.if-len-gt-MOST_TOGETHER.true, c.len.ensures))

pub returns-in-Ok-clause-did : goal.returns-in-Ok-clause-did
returns-in-Ok-clause-did g c =
    let R = rules (agenda_rules g.A.Agenda.rules g.A.Joins.joins) (source_rules g.S.Children.after g.S.Sources.wakes g.S.Sources.clock) g.K.Sink.rules in
    λ n rest w h. took_joined R n rest w c.args.self.now.host h c.args.self.now.sources c.args.self.now.sink c.args.self.now.agenda c.args.events.items c.serve_joining.new.joins c.serve_joining.new.children c.serve_joining.new.host c.in-Ok.gave (c.in-Ok.ensures.ok w h)

pub returns-in-Err-clause-did : goal.returns-in-Err-clause-did
returns-in-Err-clause-did g c =
    let R = rules (agenda_rules g.A.Agenda.rules g.A.Joins.joins) (source_rules g.S.Children.after g.S.Sources.wakes g.S.Sources.clock) g.K.Sink.rules in
    let here = parts c.args.self.now.host c.args.self.now.sources c.args.self.now.sink c.args.self.now.agenda in
    λ n rest w h. subst (λ (why : RunFault). DidSteps R (seen n w here) (join c.args.events.items ∷ rest)
    (left_by_answer (λ (x : GaveJoined). printing_joined x.first x.outcomes.items x.later.items x.replies.items rest)) (Err why)
    (n, parts c.serve_joining.new.host c.serve_joining.new.children c.args.self.now.sink c.serve_joining.new.joins)) (sym c.gate_fault.ensures)
    (failed_joined R n rest w c.args.self.now.host h c.args.self.now.sources c.args.self.now.sink c.args.self.now.agenda c.args.events.items _ c.serve_joining.new.joins c.serve_joining.new.children c.serve_joining.new.host c.in-Err.fault (c.in-Err.ensures.err w h))

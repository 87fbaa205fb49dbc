use Rattle.std.proofs.Common.{refl}
use Rattle.session_engine.specs.World.{world_at_opening}
use Rattle.driver.specs.Place.{agenda_rules, rules, source_rules}
use Rattle.driver.specs.Over.{not_opened}
use Rattle.driver.proofs.Overs.{opened_by, over_ran, stops_by}
use Rattle.driver.proofs.over.run_over.Goals as goal

pub returns-clause-over : goal.returns-clause-over
returns-clause-over g c =
    let R = rules (agenda_rules g.A.Agenda.rules g.A.Joins.joins) (source_rules g.S.Children.after g.S.Sources.wakes g.S.Sources.clock) g.K.Sink.rules in
    let opens = c.in-Ok.ensures.opens in
    let w = world_at_opening opens.0 (g.D.Disk.view c.args.disk).room c.in-Ok.host.store.end in
    let did = c.drive-answer.ensures.did w opens.1 in
    let o = opened_by (g.D.Disk.view c.args.disk) c.in-Ok.host opens.0 opens.1 c.in-Ok.ensures.same c.in-Ok.ensures.found c.in-Ok.ensures.ends c.in-Ok.ensures.looks in
    over_ran R (g.D.Disk.view c.args.disk) (g.D.Disk.view c.close.result) o c.args.sources c.drive-answer.new.self.sources c.stop_all.new.children c.args.sink c.drive-answer.new.self.sink c.args.agenda c.drive-answer.new.self.agenda c.drive-answer.result did.0 c.drive-answer.new.self.host did.1 c.close.ensures
    (stops_by g.S.Children.after c.drive-answer.new.self.host did.1.world c.drive-answer.new.self.sources c.stop_all.new.children
    (record { working = c.stop_all.ensures.working; gone = c.stop_all.ensures.stopped; numbered = c.stop_all.ensures.numbered }) c.drive-answer.result did.1.stands)

pub returns-in-Err-clause-over : goal.returns-in-Err-clause-over
returns-in-Err-clause-over g c = not_opened c.in-Err.field-0.cause (record { sources = refl; sink = refl; agenda = refl; tells = c.in-Err.ensures.fault; looks = c.in-Err.ensures.looks; failed = c.in-Err.ensures.faulty; steady = c.in-Err.ensures.steady })

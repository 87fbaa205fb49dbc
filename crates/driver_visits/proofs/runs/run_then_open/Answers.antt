use Rattle.std.proofs.Common.{IsTrue, subst, sym}
use Rattle.driver.specs.Place.{agenda_rules, rules, source_rules}
use Rattle.driver.specs.Over.{program_parts}
use Rattle.session_engine.specs.Host.{disk_of_opening}
use Rattle.driver_visits.proofs.Leaving.{runs_then_opens}
use Rattle.driver_visits.proofs.runs.run_then_open.Goals as goal

pub returns : goal.returns
returns g c = λ model.
    let over = c.run_over-disk.result in
    let kept : IsTrue (g.D.Disk.view over.disk).keeps_model = subst IsTrue (sym c.run_over-disk.ensures.same.keeps_model) model in
    runs_then_opens c.hosts_in_turn.ensures c.one_sheet.ensures
    (rules (agenda_rules g.A.Agenda.rules g.A.Joins.joins) (source_rules g.S.Children.after g.S.Sources.wakes g.S.Sources.clock) g.K.Sink.rules)
    (program_parts (g.D.Disk.view c.args.disk) c.args.sources c.args.sink c.args.agenda) (program_parts (disk_of_opening g.D.Disk.view c.opened_after.result) over.sources over.sink over.agenda) c.opened_after.result model
    (g.D.Disk.view over.disk) over.answer c.run_over-disk.ensures.over kept (g.met.D.Disk.content_stays over.disk kept) c.opened_after.ensures.acts (record { same = c.opened_after.ensures.same; looks = c.opened_after.ensures.looks kept })

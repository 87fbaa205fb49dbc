use Rattle.std.proofs.Common.{refl}
use Rattle.disk_model.specs.Memory.{view_of}
use Rattle.driver.specs.Place.{agenda_rules, rules, source_rules}
use Rattle.driver.specs.Over.{program_parts}
use Rattle.driver_visits.specs.Runs.{OpensCrashed, RunsThenCrashes}
use Rattle.driver_visits.proofs.Leaving.{crash_opens, runs_then_crashes}
use Rattle.driver_visits.proofs.crashed.run_then_crash.Goals as goal

pub returns : goal.returns
returns g c =
    let over = c.run_over-disk.result in
    let rules_here = rules (agenda_rules g.A.Agenda.rules g.A.Joins.joins) (source_rules g.S.Children.after g.S.Sources.wakes g.S.Sources.clock) g.K.Sink.rules in
    let first = program_parts (view_of c.args.disk) c.args.sources c.args.sink c.args.agenda in
    let last = program_parts (view_of over.disk) over.sources over.sink over.agenda in
    crash_opens c.args.choice.now (view_of over.disk) (OpensCrashed c.args.choice.now (view_of over.disk)) (λ opened. RunsThenCrashes rules_here first last c.args.choice.now opened over.answer)
    (λ opened left. runs_then_crashes c.hosts_in_turn.ensures c.one_sheet.ensures rules_here first last over.answer refl c.run_over-disk.ensures.over c.args.choice.now opened left)
    c.open_crashed-opened.result c.open_crashed-opened.ensures

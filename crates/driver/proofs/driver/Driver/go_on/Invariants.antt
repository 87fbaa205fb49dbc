use Rattle.std.proofs.Common.{[], ◌∷◌, Ok, true}
use Rattle.disk_model.specs.Disk.{SameDisk}
use Rattle.session_engine.specs.World.{World}
use Rattle.session_engine.specs.Host.{IsHost}
use Rattle.driver.specs.Place.{agenda_rules, rules, source_rules}
use Rattle.driver.specs.Items.{ask}
use Rattle.driver.specs.Runs.{DidSteps, again, left_by_answer, parts, seen}
use Rattle.driver.proofs.driver.Driver.go_on.Given as goal

abbrev pub invariant-loop : goal.invariant-loop
invariant-loop g l = record {
  same : SameDisk l.fn.self.host.store.disk l.self.host.store.disk;
  did : (w : World) → IsHost l.fn.self.host w → DidSteps (rules (agenda_rules g.A.Agenda.rules g.A.Joins.joins) (source_rules g.S.Children.after g.S.Sources.wakes g.S.Sources.clock) g.K.Sink.rules) (seen 0 w (parts l.fn.self.host l.fn.self.sources l.fn.self.sink l.fn.self.agenda)) (ask ∷ []) (left_by_answer again) (Ok true)
      (l.counter, parts l.self.host l.self.sources l.self.sink l.self.agenda);
}

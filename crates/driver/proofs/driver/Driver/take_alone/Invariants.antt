use Rattle.std.proofs.Common.{◌+◌, ◌≤◌, ◌∷◌, ◌++◌, ℕ, List, Ok, Option}
use Rattle.disk_model.specs.Disk.{SameDisk}
use Rattle.host_events.specs.declared.event.Event.{Event}
use Rattle.session_engine.specs.World.{World}
use Rattle.session_engine.specs.Host.{IsHost}
use Rattle.child_edge.specs.inside.Ranks.{rank}
use Rattle.driver.specs.Place.{agenda_rules, rules, source_rules}
use Rattle.driver.specs.Items.{Item, take_alone, taking_due}
use Rattle.driver.specs.Runs.{DidSteps, left_by_answer, parts, seen}
use Rattle.driver.proofs.driver.Driver.take_alone.Given as goal

abbrev pub invariant-loop : goal.invariant-loop
invariant-loop g l = record {
  same : SameDisk l.fn.self.host.store.disk l.self.host.store.disk;
  few : (w : World) → IsHost l.fn.self.host w → rank l.due + l.counter ≤ 3;
  did : (n : ℕ) (rest : List Item) (w : World) → IsHost l.fn.self.host w → DidSteps (rules (agenda_rules g.A.Agenda.rules g.A.Joins.joins) (source_rules g.S.Children.after g.S.Sources.wakes g.S.Sources.clock) g.K.Sink.rules) (seen n w (parts l.fn.self.host l.fn.self.sources l.fn.self.sink l.fn.self.agenda)) (take_alone l.fn.event ∷ rest)
      (left_by_answer (λ (due : Option Event). taking_due due ++ rest)) (Ok l.due) (n, parts l.self.host l.self.sources l.self.sink l.self.agenda);
}

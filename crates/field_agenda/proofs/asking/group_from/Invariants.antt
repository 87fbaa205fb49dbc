use Rattle.std.proofs.Common.{◌≡◌, ◌≤◌, ℕ, Some, drop, length, slice_get}
use Rattle.session_engine.specs.World.{World}
use Rattle.session_engine.specs.Host.{IsHost}
use Rattle.driver.specs.Steps.{most_together}
use Rattle.field_agenda.specs.Together.{goes_with, group_at, with_those_that_go}
use Rattle.field_agenda.proofs.asking.group_from.Given as goal

abbrev pub invariant-loop-at : goal.invariant-loop-at
invariant-loop-at g l = record {
  group : (w : World) (id : ℕ) → IsHost l.host w → slice_get l.ids l.from ≡ Some id → with_those_that_go (goes_with l.grouping.plan.now w l.grouping.lasts.now) l.group.items (drop l.at l.ids) ≡ group_at l.grouping.plan.now w l.grouping.lasts.now l.ids l.from id;
  few : length l.group.items ≤ most_together;
}

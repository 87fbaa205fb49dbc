-- How many events come of one at most: it, the fault of its effect's call, and the fault of that one's.
use Rattle.std.specs.Prelude.{ℕ, Option, Some, None}
use Rattle.host_events.specs.declared.event.ChildEvent.TheVariants as child
use Rattle.host_events.specs.declared.event.Event.{Event}
use Rattle.host_events.specs.declared.event.Event.TheVariants.{Child}

abbrev pub rank_of : Event → ℕ
rank_of (Child name life child.StartRefused) = 1
rank_of (Child name life child.StopFault) = 1
rank_of (Child name life child.SendFault) = 2
rank_of _ = 3

-- as many events come of what is due
abbrev pub rank : Option Event → ℕ
rank None = 0
rank (Some e) = rank_of e

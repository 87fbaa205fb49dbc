-- The lives that are stopped at the end of a run.
use Rattle.std.specs.Prelude.{List}
use Rattle.disk_model.specs.Disk.{DiskView}
use Rattle.host_events.specs.declared.event.Event.{Event}
use Rattle.session_engine.specs.World.{World}
use Rattle.session_engine.specs.Host.{HostView}
use Rattle.child_edge.specs.Faithful.{Relation}
use Rattle.child_edge.specs.Seats.{running}
use Rattle.child_edge.specs.Stops.{Stops}
use Rattle.child_edge.specs.Together.{LostTogether}

-- Each life that goes on in this world was stopped. Where the disk failed at a gate of events, so that it isn't known which of them are durable, these are
-- the lives after all of them, as the host has them in memory.
pub data StopsAll {C : Type 0} (R : Relation C) (h : HostView) (w : World) (c d : C) : Type 0 where
  in_world : Stops R (running w) c d → StopsAll R h w c d
  at_gate : (events : List Event) (before : DiskView) (lost : LostTogether w events before h) → Stops R (running lost.leads) c d → StopsAll R h w c d

use Rattle.std.proofs.Common.{◌≡◌, ◌≤◌, ◌+◌, length, false, true, vec_len, vec_capacity}
use Rattle.std.specs.Vec.Iter.{into_iter_items, into_iter_len}
use Rattle.std.specs.List.{list_any}
use Rattle.disk_model.specs.Disk.{SameDisk}
use Rattle.session_engine.specs.World.{World}
use Rattle.session_engine.specs.Host.{IsHost}
use Rattle.session_engine.specs.Crash.{Moments}
use Rattle.session_engine.specs.Gathers.{NoCheckpoints}
use Rattle.session_engine.specs.Groups.{is_refusal}
use Rattle.recovery.specs.Sheets.{GathersOn}
use Rattle.session_engine.proofs.Playing.{PlayedEach}
use Rattle.session_engine.proofs.buffered.BufferedHost.play_onto.Given as goal

abbrev pub invariant-loop-event : goal.invariant-loop-event
invariant-loop-event g l = record {
  left : into_iter_len l.event-iterator ≡ length (into_iter_items l.event-iterator);
  room : vec_len l.outcomes + length (into_iter_items l.event-iterator) ≤ vec_capacity l.outcomes;
  same : SameDisk l.fn.self.store.disk l.self.store.disk;
  played : (w : World) → IsHost l.fn.self w → PlayedEach w l.fn.events.items (into_iter_items l.event-iterator) l.outcomes.items l.fn.self l.self;
  moments : (w : World) → IsHost l.fn.self w → Moments w l.fn.events.items l.outcomes.items l.fn.self.store.disk l.self.store.disk;
  right : l.fn.up_to ≡ true → list_any is_refusal l.outcomes.items ≡ false;
  few : length l.outcomes.items + length (into_iter_items l.event-iterator) ≤ length l.fn.events.items;
  gathers : NoCheckpoints l.fn.events.items → GathersOn l.fn.self.store l.self.store × NoCheckpoints (into_iter_items l.event-iterator);
}

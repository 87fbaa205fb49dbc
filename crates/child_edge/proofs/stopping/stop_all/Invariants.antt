use Rattle.std.proofs.Common.{◌≡◌, ◌++◌, List}
use Rattle.session_engine.specs.World.{World, sheet_in}
use Rattle.session_engine.specs.Host.{IsHost, number_in}
use Rattle.child_calls.specs.declared.seat.Seat.{Seat}
use Rattle.child_edge.specs.Seats.{lives_of}
use Rattle.child_edge.specs.Stops.{Stops}
use Rattle.child_edge.proofs.Seating.{number_of}
use Rattle.child_edge.proofs.stopping.stop_all.Given as goal

abbrev pub invariant-loop-session : goal.invariant-loop-session
invariant-loop-session g l = record {
  kept : (done : List Seat) × Stops g.C.Children.after done l.fn.children l.children
      × (done ++ lives_of (number_in l.host.lives) l.session-iterator ≡ lives_of (number_in l.host.lives) l.host.store.sheet.contents.sessions);
  stands : (w : World) → IsHost l.host w → (done : List Seat) × Stops g.C.Children.after done l.fn.children l.children
      × (done ++ lives_of (number_of w) l.session-iterator ≡ lives_of (number_of w) (sheet_in w).sessions);
}

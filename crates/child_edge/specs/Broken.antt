-- Runs that broke off, because the host had a fault or because there was no memory for a reply.
use Rattle.std.specs.Prelude.{◌≡◌, ℕ, ◌≤◌, List, ◌++◌, Some, None, length, slice_get, nat_lt}
use Rattle.host_events.specs.declared.event.Event.{Event}
use Rattle.child_calls.specs.declared.seat.Seat.{Seat}
use Rattle.child_edge.specs.Seats.{waits}
use Rattle.child_edge.specs.Faithful.{Relation, At, Entry, FirstOf, Taken, Rounds, Hearing, hearing}

-- A round of these lives up to where this event was due: the lives that were done, and the one that was not.
pub record TurnStopped {C : Type 0} (h : Hearing C) (seats : List Seat) (s : At C) (bs : List Entry) (e : Event) (t : At C) : Type 0 where
  pub whole : ℕ
  pub mid : At C
  pub before : List Entry
  pub last : List Entry
  pub seat : Seat
  pub are_done : FirstOf (Taken h None) seats whole s before mid
  pub is_next : slice_get seats whole ≡ Some seat
  pub broken : Taken h (Some e) seat mid last t
  pub entries : bs ≡ before ++ last

-- The first of these lives were done, whatever their number.
pub record TurnSoFar {C : Type 0} (h : Hearing C) (seats : List Seat) (s : At C) (bs : List Entry) (t : At C) : Type 0 where
  pub whole : ℕ
  pub fits : whole ≤ length seats
  pub are_done : FirstOf (Taken h None) seats whole s bs t

-- Rounds, and a part of the next one. Each receive that gave something has its event here.
pub record WaitSoFar {C : Type 0} (R : Relation C) (most : ℕ) (s : At C) (bs : List Entry) (t : At C) : Type 0 where
  pub whole : ℕ
  pub fits : whole ≤ most
  pub mid : At C
  pub before : List Entry
  pub last : List Entry
  pub rounds : Rounds R most whole s before mid
  pub part : TurnSoFar (hearing R (nat_lt whole most)) (waits mid.world) mid last t
  pub entries : bs ≡ before ++ last

-- Rounds, and the next one up to where this event was due.
pub record WaitStopped {C : Type 0} (R : Relation C) (most : ℕ) (s : At C) (bs : List Entry) (e : Event) (t : At C) : Type 0 where
  pub whole : ℕ
  pub fits : whole ≤ most
  pub mid : At C
  pub before : List Entry
  pub last : List Entry
  pub rounds : Rounds R most whole s before mid
  pub part : TurnStopped (hearing R (nat_lt whole most)) (waits mid.world) mid last e t
  pub entries : bs ≡ before ++ last

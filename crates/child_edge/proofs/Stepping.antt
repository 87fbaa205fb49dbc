-- A wait goes on by one life.
use Rattle.std.proofs.Common.{◌≡◌, ℕ, ◌+◌, ◌≤◌, ◌<◌, List, [], ◌++◌, Some, None, refl, sym, ap, ◌∙◌, subst, append_assoc, append-nil, length, slice_get, nat_lt, inl, inr, arith}
use Rattle.host_events.specs.declared.event.Event.{Event}
use Rattle.child_edge.specs.declared.waiting.Waiting.{Waiting}
use Rattle.child_calls.specs.declared.seat.Seat.{Seat}
use Rattle.child_edge.specs.Limits.{most_rounds}
use Rattle.child_edge.specs.Seats.{waits}
use Rattle.child_edge.specs.Faithful.{Relation, At, at, Entry, FirstOf, Taken, OneRound, Rounds, Waited, hearing}
use Rattle.child_edge.specs.Broken.{WaitSoFar, WaitStopped}
use Rattle.child_edge.specs.Steps.{Came, IsBegun}
use Rattle.disk_model.specs.Disk.{DiskView}
use Rattle.session_engine.specs.World.{World}
use Rattle.child_edge.proofs.Waits.{FirstOf-more, Rounds-more}

module _ {C : Type 0} (R : Relation C) (wait : Waiting) (s : At C) (bs : List Entry) (t : At C) (came : Came R wait s bs t) where
  pub came_so_far : WaitSoFar R most_rounds s bs t
  came_so_far = record {
    whole = wait.whole;
    fits = came.fits;
    mid = came.mid;
    before = came.before;
    last = came.last;
    rounds = came.rounds;
    part = record { whole = wait.place; fits = subst (λ (x : List Seat). wait.place ≤ length x) came.seats came.place; are_done = subst (λ (x : List Seat). FirstOf (Taken (hearing R (nat_lt wait.whole most_rounds)) None) x wait.place came.mid came.last t) came.seats came.part };
    entries = came.entries;
  }

  -- the round is whole
  pub came_round : wait.place ≡ length wait.seats.items → Rounds R most_rounds (wait.whole + 1) s bs t
  came_round all =
      subst (λ (l : List Entry). Rounds R most_rounds (wait.whole + 1) s l t) (sym came.entries)
      (Rounds-more R most_rounds wait.whole s came.before came.mid (nat_lt wait.whole most_rounds) came.last t came.rounds refl
      (subst (λ (x : List Seat). OneRound (hearing R (nat_lt wait.whole most_rounds)) x came.mid came.last t) came.seats
      (subst (λ (k : ℕ). FirstOf (Taken (hearing R (nat_lt wait.whole most_rounds)) None) wait.seats.items k came.mid came.last t) all came.part)))

  -- no item waited as the round began
  pub came_idle : wait.seats.items ≡ [] → Waited R most_rounds s bs t
  came_idle none =
      let at_start : wait.place ≡ 0 = omega (arith, came.place, ap length none) in
      let part : FirstOf (Taken (hearing R (nat_lt wait.whole most_rounds)) None) wait.seats.items 0 came.mid came.last t = subst (λ (k : ℕ). FirstOf (Taken (hearing R (nat_lt wait.whole most_rounds)) None) wait.seats.items k came.mid came.last t) at_start came.part in
      let same : bs ≡ came.before = came.entries ∙ ap (λ (x : List Entry). came.before ++ x) part.0 ∙ append-nil came.before in
      let rounds : Rounds R most_rounds wait.whole s bs t = subst (λ (x : At C). Rounds R most_rounds wait.whole s bs x) (sym part.1) (subst (λ (x : List Entry). Rounds R most_rounds wait.whole s x came.mid) (sym same) came.rounds) in
      (wait.whole, rounds, inl (ap (λ (x : At C). waits x.world) part.1 ∙ sym came.seats ∙ none, came.fits))

  -- none waits after it
  pub came_quiet : wait.place ≡ length wait.seats.items → wait.whole < most_rounds → waits t.world ≡ [] → Waited R most_rounds s bs t
  came_quiet all few none = (wait.whole + 1, came_round all, inl (none, omega (arith, few)))

  -- it was the round in which those that still wait stalled
  pub came_last : wait.place ≡ length wait.seats.items → wait.whole ≡ most_rounds → Waited R most_rounds s bs t
  came_last all last = (wait.whole + 1, came_round all, inr (omega (arith, last)))

  -- the next round begins
  pub came_next : (next : Waiting) → wait.place ≡ length wait.seats.items → wait.whole < most_rounds → next.whole ≡ wait.whole + 1 → next.place ≡ 0 → next.seats.items ≡ waits t.world → Came R next s bs t
  came_next next all few whole place seats = record {
    mid = t;
    before = bs;
    last = [];
    fits = omega (arith, few, whole);
    place = omega (arith, place);
    seats = seats;
    rounds = subst (λ (k : ℕ). Rounds R most_rounds k s bs t) (sym whole) (came_round all);
    part = subst (λ (k : ℕ). FirstOf (Taken (hearing R (nat_lt next.whole most_rounds)) None) next.seats.items k t [] t) (sym place) (refl, refl);
    entries = sym (append-nil bs);
  }

  -- one life more
  pub came_on : (next : Waiting) (seat : Seat) (cs : List Entry) (v : At C) → wait.place < length wait.seats.items → slice_get wait.seats.items wait.place ≡ Some seat → next.whole ≡ wait.whole → next.seats ≡ wait.seats
      → next.place ≡ wait.place + 1 → Taken (hearing R (nat_lt wait.whole most_rounds)) None seat t cs v → Came R next s (bs ++ cs) v
  came_on next seat cs v room here whole seats place taken = record {
    mid = came.mid;
    before = came.before;
    last = came.last ++ cs;
    fits = omega (arith, came.fits, whole);
    place = subst (λ x. next.place ≤ length x.items) (sym seats) (omega (arith, room, place));
    seats = ap (λ x. x.items) seats ∙ came.seats;
    rounds = subst (λ (k : ℕ). Rounds R most_rounds k s came.before came.mid) (sym whole) came.rounds;
    part = subst (λ (k : ℕ). FirstOf (Taken (hearing R (nat_lt k most_rounds)) None) next.seats.items next.place came.mid (came.last ++ cs) v) (sym whole)
        (subst (λ x. FirstOf (Taken (hearing R (nat_lt wait.whole most_rounds)) None) x.items next.place came.mid (came.last ++ cs) v) (sym seats)
        (subst (λ (k : ℕ). FirstOf (Taken (hearing R (nat_lt wait.whole most_rounds)) None) wait.seats.items k came.mid (came.last ++ cs) v) (sym place)
        (FirstOf-more (Taken (hearing R (nat_lt wait.whole most_rounds)) None) wait.seats.items wait.place came.mid came.last t seat cs v came.part here taken)));
    entries = ap (λ (x : List Entry). x ++ cs) came.entries ∙ append_assoc came.before came.last cs;
  }

  -- a life broke off
  pub came_broke : (seat : Seat) (cs : List Entry) (e : Event) (v : At C) → slice_get wait.seats.items wait.place ≡ Some seat → Taken (hearing R (nat_lt wait.whole most_rounds)) (Some e) seat t cs v
      → WaitStopped R most_rounds s (bs ++ cs) e v
  came_broke seat cs e v here broken = record {
    whole = wait.whole;
    fits = came.fits;
    mid = came.mid;
    before = came.before;
    last = came.last ++ cs;
    rounds = came.rounds;
    part = record {
      whole = wait.place;
      mid = t;
      before = came.last;
      last = cs;
      seat = seat;
      are_done = subst (λ (x : List Seat). FirstOf (Taken (hearing R (nat_lt wait.whole most_rounds)) None) x wait.place came.mid came.last t) came.seats came.part;
      is_next = subst (λ (x : List Seat). slice_get x wait.place ≡ Some seat) came.seats here;
      broken = broken;
      entries = refl;
    };
    entries = ap (λ (x : List Entry). x ++ cs) came.entries ∙ append_assoc came.before came.last cs;
  }

-- it begins
pub came_begun : {C : Type 0} (R : Relation C) (wait : Waiting) (w : World) (c : C) (d : DiskView) → IsBegun wait w → Came R wait (at w c d) [] (at w c d)
came_begun R wait w c d b = record {
  mid = at w c d;
  before = [];
  last = [];
  fits = omega (arith, b.whole);
  place = omega (arith, b.place);
  seats = b.seats;
  rounds = subst (λ (k : ℕ). Rounds R most_rounds k (at w c d) [] (at w c d)) (sym b.whole) (refl, refl);
  part = subst (λ (k : ℕ). FirstOf (Taken (hearing R (nat_lt wait.whole most_rounds)) None) wait.seats.items k (at w c d) [] (at w c d)) (sym b.place) (refl, refl);
  entries = refl;
}

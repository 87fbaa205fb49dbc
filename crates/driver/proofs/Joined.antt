-- What the driver's calls did of events of lives and of those that join them.
use Rattle.std.proofs.Common.{◌≡◌, ℕ, ◌+◌, ◌^◌, ◌≤◌, ◌<◌, List, [], ◌∷◌, ◌++◌, Option, Some, None, refl, sym, subst, Ok, Err, length}
use Rattle.std.specs.Prelude.{Result}
use Rattle.disk_model.specs.Disk.{DiskView}
use Rattle.host_events.specs.declared.event.Event.{Event}
use Rattle.host_events.specs.declared.outcome.Outcome.{Outcome}
use Rattle.host_events.specs.declared.outcome.HostFault.TheVariants as hosts
use Rattle.host_events.specs.declared.reply.Reply.{Reply}
use Rattle.session_engine.specs.World.{World}
use Rattle.session_engine.specs.Host.{HostView, IsHost}
use Rattle.session_engine.specs.Joining.{asking}
use Rattle.child_edge.specs.Faithful.{at}
use Rattle.child_edge.specs.Joined.{FailsJoined, RanJoined, joining_edge}
use Rattle.child_edge.specs.declared.joined.GaveJoined.{GaveJoined}
use Rattle.child_edge.specs.declared.together.TogetherFault.{TogetherFault}
use Rattle.child_edge.specs.declared.together.TogetherFault.TheVariants as halt
use Rattle.offline_programs.specs.declared.fault.RunFault.{RunFault}
use Rattle.offline_programs.specs.declared.fault.RunFault.TheVariants as fault
use Rattle.driver.specs.Reports.{lines}
use Rattle.driver.specs.Items.{Item, join, joined_lines, print, printing_joined, took}
use Rattle.driver.specs.Place.{RunPlace, Rules}
use Rattle.driver.specs.Steps.{Fails, Goes, broken_joined, fault_at_gate, joins, lost_joined, most_together, too_many_heard, uncounted_line, unjoined}
use Rattle.driver.specs.Runs.{DidSteps, Parts, left_by_answer, lost_there, parts, seen, stopped, works}
use Rattle.driver.proofs.Running.{did_break, did_none, did_one}

module _ {A C K : Type 0} (R : Rules A C K) (n : ℕ) (rest : List Item) (w : World) (h : HostView) (stands : IsHost h w) (c : C) (k : K) (a : A) where
  abbrev pub there : RunPlace A C K
  there = seen n w (parts h c k a)

  pub took_joined : (events : List Event) (b : A) (d : C) (g : HostView) (gave : GaveJoined) → RanJoined (joining_edge R.sources.after (asking R.agenda.joins a b)) (at w c h.store.disk) events g d gave
      → DidSteps R there (join events ∷ rest) (left_by_answer (λ (x : GaveJoined). printing_joined x.first x.outcomes.items x.later.items x.replies.items rest)) (Ok gave) (n, parts g d k b)
  took_joined events b d g gave r =
      did_one R there (join events ∷ rest) (took (events ++ r.more) (gave.outcomes.items ++ gave.later.items) r.followed)
      (left_by_answer (λ (x : GaveJoined). printing_joined x.first x.outcomes.items x.later.items x.replies.items rest)) (Ok gave) r.leads
      (n, parts g d k b)
      (subst (λ (rs : List Reply). Goes R there (join events ∷ rest) (took (events ++ r.more) (gave.outcomes.items ++ gave.later.items) r.followed)
      (printing_joined gave.first gave.outcomes.items gave.later.items rs rest) (seen n r.leads (parts g d k b))) (sym r.replied)
      (joins events gave.outcomes.items gave.first r.more gave.later.items r.followed b r.leads d g.store.disk rest r.joined r.run)) r.stands

  pub too_many_lives : (events : List Event) (left : GaveJoined → List Item) → most_together < length events
      → DidSteps R there (join events ∷ rest) (left_by_answer left) (Err fault.InputTooLong) (n, parts h c k a)
  too_many_lives events left many = did_break R there (join events) rest [] left fault.InputTooLong w (n, parts h c k a) (too_many_heard events many) (works stands)

  pub failed_joined : (events : List Event) (left : GaveJoined → List Item) (b : A) (d : C) (g : HostView) (f : TogetherFault)
      → FailsJoined (joining_edge R.sources.after (asking R.agenda.joins a b)) (at w c h.store.disk) events g d f
      → DidSteps R there (join events ∷ rest) (left_by_answer left) (Err (fault_at_gate f)) (n, parts g d k b)
  failed_joined events left b d g halt.OutOfMemory (unasked, goes_on, disk, same) =
      subst (λ (y : C). DidSteps R there (join events ∷ rest) (left_by_answer left) (Err fault.OutOfMemory) (n, parts g y k b)) (sym same)
      (subst (λ (x : A). DidSteps R there (join events ∷ rest) (left_by_answer left) (Err fault.OutOfMemory) (n, parts g c k x)) (sym unasked)
      (did_break R there (join events) rest [] left fault.OutOfMemory w (n, parts g c k a)
      (subst (λ (x : DiskView). Fails R there (join events) [] fault.OutOfMemory (record there { disk = x })) (sym disk) (unjoined events)) (works goes_on)))
  failed_joined events left b d g halt.Lost (all, all_are, l, same) =
      subst (λ (y : C). DidSteps R there (join events ∷ rest) (left_by_answer left) (Err (fault.Host hosts.Disk)) (n, parts g y k b)) (sym same)
      (did_break R there (join events) rest [] left (fault.Host hosts.Disk) w (n, parts g c k b) (lost_joined events all b g all_are l) (lost_there all h.store.disk l))
  failed_joined events left b d g (halt.Host f) (all, all_are, entries, e, v, disk, up_to, gone) =
      did_break R there (join events) rest entries left (fault.Host f) v (n, parts g d k b) (broken_joined events all b entries e f v d disk g all_are up_to gone) (stopped disk e f gone)

  -- what joined is printed, where any did
  pub none_joined : (first : Option ℕ) (later : List Outcome) (done : Unit {0}) → first ≡ None
      → DidSteps R there (joined_lines first later rest) (left_by_answer (λ (x : Unit {0}). rest)) (Ok done) (n, parts h c k a)
  none_joined first later done is =
      subst (λ (f : Option ℕ). DidSteps R there (joined_lines f later rest) (left_by_answer (λ (x : Unit {0}). rest)) (Ok done) (n, parts h c k a)) (sym is)
      (did_none R w (parts h c k a) n rest (left_by_answer (λ (x : Unit {0}). rest)) (Ok done) refl stands)

  pub some_joined : (first : Option ℕ) (number : ℕ) (later : List Outcome) (r : Result (Unit {0}) RunFault) (last : ℕ × Parts A C K) → first ≡ Some number
      → DidSteps R there (print (lines number later) ∷ rest) (left_by_answer (λ (x : Unit {0}). rest)) r last
      → DidSteps R there (joined_lines first later rest) (left_by_answer (λ (x : Unit {0}). rest)) r last
  some_joined first number later r last is did =
      subst (λ (f : Option ℕ). DidSteps R there (joined_lines f later rest) (left_by_answer (λ (x : Unit {0}). rest)) r last) (sym is) did

  pub line_uncounted : (number : ℕ) (outcomes : List Outcome) → 2 ^ 64 ≤ number + most_together + 1
      → DidSteps R there (print (lines number outcomes) ∷ rest) (left_by_answer (λ (x : Unit {0}). rest)) (Err fault.InputTooLong) (n, parts h c k a)
  line_uncounted number outcomes many =
      did_break R there (print (lines number outcomes)) rest [] (λ (x : Unit {0}). rest) fault.InputTooLong w (n, parts h c k a) (uncounted_line number outcomes many) (works stands)

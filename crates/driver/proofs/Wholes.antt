-- What the driver's calls did of commands that are taken all or not at all.
use Rattle.std.proofs.Common.{◌⊎◌, ℕ, ◌+◌, ◌^◌, ◌≤◌, ◌<◌, List, [], ◌∷◌, ◌++◌, Some, arith, sym, subst, Ok, Err, length}
use Rattle.disk_model.specs.Disk.{DiskView}
use Rattle.host_events.specs.declared.event.Event.{Event}
use Rattle.host_events.specs.declared.outcome.Outcome.{Outcome}
use Rattle.session_engine.specs.World.{World}
use Rattle.session_engine.specs.Host.{HostView, IsHost}
use Rattle.session_engine.specs.Whole.{HasAtMost}
use Rattle.session_engine.specs.declared.whole.Whole.{Whole}
use Rattle.session_engine.specs.declared.whole.Whole.TheVariants.{Taken, Refused}
use Rattle.session_engine.specs.declared.whole.WholeFault.{WholeFault}
use Rattle.session_engine.specs.declared.whole.WholeFault.TheVariants as halt
use Rattle.child_edge.specs.Wholly.{FailsWhole, ServesWhole}
use Rattle.host_events.specs.declared.outcome.HostFault.TheVariants as hosts
use Rattle.offline_programs.specs.declared.fault.RunFault.TheVariants as fault
use Rattle.driver.specs.Items.{Item, heed, print, printing, refused_whole, took, take_transaction}
use Rattle.driver.specs.Reports.{came, followed, lines}
use Rattle.driver.specs.Place.{RunPlace, Rules}
use Rattle.driver.specs.Steps.{Fails, Goes, fault_of_whole, lost_whole, most_together, refuses_whole, takes_whole, too_many_whole, uncounted_line, untaken_whole}
use Rattle.driver.specs.Runs.{DidSteps, left_by_answer, lost_there, parts, seen, works}
use Rattle.driver.specs.inside.Wholes.{printing_whole}
use Rattle.driver.proofs.Running.{did_break, did_one}

module _ {A C K : Type 0} (R : Rules A C K) (n : ℕ) (rest : List Item) (w : World) (h : HostView) (stands : IsHost h w) (first : ℕ) (events : List Event) (c : C) (k : K) (a : A) where
  abbrev pub there : RunPlace A C K
  there = seen n w (parts h c k a)

  abbrev pub left_by : Whole → List Item
  left_by made = printing_whole first made ++ rest

  pub served_whole : (g : HostView) (made : Whole) → ServesWhole w events h g made → DidSteps R there (take_transaction first events ∷ rest) (left_by_answer left_by) (Ok made) (n, parts g c k a)
  served_whole g (Taken outcomes) t =
      did_one R there (take_transaction first events ∷ rest) (took events outcomes.items []) (left_by_answer left_by) (Ok (Taken outcomes)) t.leads (n, parts g c k a)
      (takes_whole first events outcomes.items t.leads g.store.disk rest t.taken) t.stands
  served_whole g (Refused before last) r =
      did_one R there (take_transaction first events ∷ rest) (refused_whole events last) (left_by_answer left_by) (Ok (Refused before last)) w (n, parts g c k a)
      (subst (λ (x : DiskView). Goes R there (take_transaction first events ∷ rest) (refused_whole events last)
      (printing (Some (first + length before.items)) (last ∷ []) [] ++ rest) (record there { disk = x })) (sym r.disk)
      (refuses_whole first events before.items last rest r.at)) r.stands

  pub too_many_at_once : (left : Whole → List Item) → (most_together < length events) ⊎ (2 ^ 64 ≤ first + most_together + 1)
      → DidSteps R there (take_transaction first events ∷ rest) (left_by_answer left) (Err fault.InputTooLong) (n, parts h c k a)
  too_many_at_once left many = did_break R there (take_transaction first events) rest [] left fault.InputTooLong w (n, parts h c k a) (too_many_whole first events many) (works stands)

  pub failed_whole : (left : Whole → List Item) (g : HostView) (f : WholeFault) → FailsWhole w events h g f
      → DidSteps R there (take_transaction first events ∷ rest) (left_by_answer left) (Err (fault_of_whole f)) (n, parts g c k a)
  failed_whole left g halt.NoRoom (goes_on, disk) =
      did_break R there (take_transaction first events) rest [] left fault.OutOfMemory w (n, parts g c k a)
      (subst (λ (x : DiskView). Fails R there (take_transaction first events) [] fault.OutOfMemory (record there { disk = x })) (sym disk) (untaken_whole first events)) (works goes_on)
  failed_whole left g halt.Closed never = absurd never
  failed_whole left g halt.Disk l =
      did_break R there (take_transaction first events) rest [] left (fault.Host hosts.Disk) w (n, parts g c k a) (lost_whole first events g l) (lost_there events h.store.disk l.lost)

module _ {A C K : Type 0} (R : Rules A C K) (n : ℕ) (rest : List Item) (w : World) (h : HostView) (stands : IsHost h w) (c : C) (k : K) (a : A) where
  -- the number of the refused line can't be counted
  pub refusal_uncounted : (number : ℕ) (last : Outcome) → 2 ^ 64 ≤ number + most_together + 1
      → DidSteps R (seen n w (parts h c k a)) (printing (Some number) (last ∷ []) [] ++ rest) (left_by_answer (λ (x : Unit {0}). rest)) (Err fault.InputTooLong) (n, parts h c k a)
  refusal_uncounted number last many =
      did_break R (seen n w (parts h c k a)) (print (lines number (last ∷ []))) (print (followed []) ∷ heed (came (last ∷ []) []) ∷ rest) []
      (λ (x : Unit {0}). rest) fault.InputTooLong w (n, parts h c k a) (uncounted_line number (last ∷ []) many) (works stands)

-- there are so few that there are fewer than more
pub few_at_most : (most count : ℕ) (made : Whole) → count ≤ most → HasAtMost count made → HasAtMost most made
few_at_most most count (Taken outcomes) le few = omega (arith, le, few)
few_at_most most count (Refused before last) le few = omega (arith, le, few)

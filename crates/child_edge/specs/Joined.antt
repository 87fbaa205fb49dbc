-- Events that are taken together with those that join them. (docs/dev/EDGE.md, "A group".)
use Rattle.std.specs.Prelude.{◌≡◌, List, ◌++◌}
use Rattle.disk_model.specs.Disk.{DiskView}
use Rattle.host_events.specs.declared.event.Event.{Event}
use Rattle.session_engine.specs.World.{World}
use Rattle.session_engine.specs.Host.{HostView, IsHost}
use Rattle.session_engine.specs.Joining.{Asking, JoinsAfter, ToBeTaken}
use Rattle.child_edge.specs.Edge.{Stopped}
use Rattle.child_edge.specs.Faithful.{Relation, At, Entry, at}
use Rattle.child_edge.specs.Together.{Followed, LostTogether, Together, TogetherUpTo, entries_after}
use Rattle.child_edge.specs.Reported.{reported}
use Rattle.child_edge.specs.declared.joined.GaveJoined.{GaveJoined}
use Rattle.child_edge.specs.declared.together.TogetherFault.{TogetherFault}
use Rattle.child_edge.specs.declared.together.TogetherFault.TheVariants as halt

-- What may come of the calls on the children, and what may be answered by who is asked what joins.
pub record JoiningEdge (C : Type 0) : Type 1 where
  pub after : Relation C
  pub asking : Asking

abbrev pub joining_edge : {C : Type 0} → Relation C → Asking → JoiningEdge C
joining_edge R A = record { after = R; asking = A }

-- Events were taken together with those that joined, and what came of all of them leads to where the host and the children are now.
pub record RanJoined {C : Type 0} (R : JoiningEdge C) (s : At C) (events : List Event) (h : HostView) (c : C) (gave : GaveJoined) : Type 0 where
  pub more : List Event
  pub joined : JoinsAfter R.asking s.world events gave.outcomes.items gave.first more
  pub followed : List Followed
  pub leads : World
  pub run : Together R.after s (events ++ more) (gave.outcomes.items ++ gave.later.items) followed (at leads c h.store.disk)
  pub stands : IsHost h leads
  pub replied : gave.replies.items ≡ reported (entries_after followed)

-- What a fault of that leaves: without memory none of the events was taken, and nobody was asked.
abbrev pub FailsJoined : {C : Type 0} → JoiningEdge C → At C → List Event → HostView → C → TogetherFault → Type 0
FailsJoined R s events h c halt.OutOfMemory = R.asking.unasked × IsHost h s.world × (h.store.disk ≡ s.disk) × (c ≡ s.children)
FailsJoined R s events h c halt.Lost = (all : List Event) × ToBeTaken R.asking s.world events all × LostTogether s.world all s.disk h × (c ≡ s.children)
FailsJoined R s events h c (halt.Host f) =
    (all : List Event) × ToBeTaken R.asking s.world events all
    × (entries : List Entry) × (e : Event) × (v : World) × (d : DiskView) × TogetherUpTo R.after s all entries e (at v c d) × Stopped d h v e f

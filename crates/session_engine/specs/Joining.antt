-- What joins a group of events: somebody is asked when they were taken and nothing of them is durable yet. (docs/dev/HOST.md, "Many events, one gate".)
use Rattle.std.specs.Prelude.{◌≡◌, ℕ, List, ◌++◌, Option, true}
use Rattle.std.specs.List.{list_any}
use Rattle.host_events.specs.declared.event.Event.{Event}
use Rattle.host_events.specs.declared.outcome.Outcome.{Outcome}
use Rattle.session_engine.specs.declared.joining.Joint.{Joint}
use Rattle.session_engine.specs.declared.joining.JoinFault.{JoinFault}
use Rattle.session_engine.specs.declared.joining.JoinFault.TheVariants as halt
use Rattle.session_engine.specs.World.{World}
use Rattle.session_engine.specs.Does.{Runs}
use Rattle.session_engine.specs.Host.{HostView}
use Rattle.session_engine.specs.Gathers.{is_checkpoint}
use Rattle.session_engine.specs.Groups.{FailedGroup, StoppedGroup, TookGroup}

-- the most events that join
abbrev pub most_joined : ℕ
most_joined = 64

-- What somebody may answer who is asked what joins, by the world then: the number of the first, if there are any, and the events; and how he changes.
abbrev pub JoinRule : Type 0 → Type 1
JoinRule J = J → World → Option ℕ → List Event → J → Type 0

-- Somebody who was so before a call and is so after it: what he may have answered, where he was asked, and that he wasn't.
pub record Asking : Type 1 where
  pub answers : World → Option ℕ → List Event → Type 0
  pub unasked : Type 0

abbrev pub asking : {J : Type 0} → JoinRule J → J → J → Asking
asking rule old new = record { answers = λ w first more. rule old w first more new; unasked = new ≡ old }

-- These events went through with these outcomes, he was asked then, and answered these.
pub record JoinsAfter (A : Asking) (w : World) (events : List Event) (reported : List Outcome) (first : Option ℕ) (more : List Event) : Type 0 where
  pub world : World
  pub runs : Runs w events reported world
  pub answered : A.answers world first more

-- All events were taken, and those that joined them, and what they give is durable: at every moment a crash leaves the worksheet from before, or that
-- after all of them.
pub record TookJoined (A : Asking) (w : World) (events : List Event) (old new : HostView) (joint : Joint) : Type 0 where
  pub more : List Event
  pub joined : JoinsAfter A w events joint.outcomes.items joint.first more
  pub took : TookGroup w (events ++ more) (joint.outcomes.items ++ joint.later.items) old new

-- The events that were to be taken: these alone, where he wasn't asked; or with those that he answered.
pub data ToBeTaken (A : Asking) (w : World) (events : List Event) : List Event → Type 0 where
  alone : A.unasked → ToBeTaken A w events events
  with_more : (reported : List Outcome) (first : Option ℕ) (more : List Event) → JoinsAfter A w events reported first more → ToBeTaken A w events (events ++ more)

-- What a fault leaves. Without memory nothing was done; so also where one of the events is a checkpoint.
abbrev pub HaltsJoined : Asking → World → List Event → HostView → HostView → JoinFault → Type 0
HaltsJoined A w events old new halt.Checkpoint = A.unasked × (new ≡ old) × (list_any is_checkpoint events ≡ true)
HaltsJoined A w events old new halt.NoRoom = A.unasked × (new ≡ old)
HaltsJoined A w events old new (halt.Stopped fault) = (all : List Event) × ToBeTaken A w events all × (reported : List Outcome) × StoppedGroup w all old new reported fault
HaltsJoined A w events old new halt.Disk = (all : List Event) × ToBeTaken A w events all × FailedGroup w all old new

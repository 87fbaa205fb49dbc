-- What commands do that only change the worksheet, where they are taken as a whole or not at all. (docs/dev/HOST.md, "Many events, one gate".)
use Rattle.std.specs.Prelude.{◌≡◌, ◌≤◌, ◌+◌, ℕ, Bool, List, [], ◌∷◌, ◌++◌, true, false, length, is_some}
use Rattle.std.specs.List.{AllByRecursion, list_any}
use Rattle.host_events.specs.Commands.{op_of}
use Rattle.host_events.specs.declared.event.Event.{Event}
use Rattle.host_events.specs.declared.event.Event.TheVariants as event
use Rattle.host_events.specs.declared.outcome.Outcome.{Outcome}
use Rattle.session_engine.specs.declared.whole.Whole.{Whole}
use Rattle.session_engine.specs.declared.whole.Whole.TheVariants as whole
use Rattle.session_engine.specs.declared.whole.WholeFault.{WholeFault}
use Rattle.session_engine.specs.declared.whole.WholeFault.TheVariants as halt
use Rattle.session_engine.specs.World.{World}
use Rattle.session_engine.specs.Does.{Runs}
use Rattle.session_engine.specs.Host.{HostView, IsHost}
use Rattle.session_engine.specs.Groups.{FailedGroup, TookGroup, is_refusal}

-- the event is a command that only changes the worksheet
abbrev pub is_edit : Event → Bool
is_edit (event.Command c) = is_some (op_of c)
is_edit (event.Child name number e) = false

-- so is each of them
abbrev pub OnlyEdits : List Event → Type 0
OnlyEdits events = AllByRecursion (λ e. is_edit e ≡ true) events

-- The first events would have had these outcomes, of which the last is the first refusal.
pub record RefusedAt (w : World) (events : List Event) (before : List Outcome) (last : Outcome) : Type 0 where
  pub done : List Event
  pub rest : List Event
  pub split : events ≡ done ++ rest
  pub leads : World
  pub runs : Runs w done (before ++ last ∷ []) leads
  pub accepted : list_any is_refusal before ≡ false
  pub refused : is_refusal last ≡ true

-- All were taken, and none of them was refused.
pub record TookWhole (w : World) (events : List Event) (reported : List Outcome) (old new : HostView) : Type 0 where
  pub took : TookGroup w events reported old new
  pub accepted : list_any is_refusal reported ≡ false

-- One would be refused, so none was taken: the host stands for the world from before, and its disk is untouched.
pub record RefusedWhole (w : World) (events : List Event) (before : List Outcome) (last : Outcome) (old new : HostView) : Type 0 where
  pub at : RefusedAt w events before last
  pub stands : IsHost new w
  pub disk : new.store.disk ≡ old.store.disk

-- The disk failed when all were taken, of which none was refused.
pub record FailedWhole (w : World) (events : List Event) (old new : HostView) : Type 0 where
  pub failed : FailedGroup w events old new
  pub all : failed.rest ≡ []
  pub accepted : list_any is_refusal failed.withheld ≡ false

-- what was made of them
abbrev pub MadeWhole : World → List Event → HostView → HostView → Whole → Type 0
MadeWhole w events old new (whole.Taken outcomes) = TookWhole w events outcomes.items old new
MadeWhole w events old new (whole.Refused before last) = RefusedWhole w events before.items last old new

-- Why nothing may be reported: without memory none was taken.
abbrev pub HaltsWhole : World → List Event → HostView → HostView → WholeFault → Type 0
HaltsWhole w events old new halt.NoRoom = IsHost new w × (new.store.disk ≡ old.store.disk)
HaltsWhole w events old new halt.Closed = ⊥
HaltsWhole w events old new halt.Disk = FailedWhole w events old new

-- there are so many outcomes at most
abbrev pub HasAtMost : ℕ → Whole → Type 0
HasAtMost count (whole.Taken outcomes) = length outcomes.items ≤ count
HasAtMost count (whole.Refused before last) = length before.items + 1 ≤ count

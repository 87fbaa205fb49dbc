-- What a play of events promises at its end, and what a crash leaves at every moment of it. (docs/dev/HOST.md, "A crash".)
use Rattle.std.specs.Prelude.{◌≡◌, List, [], ◌∷◌, ◌++◌, true, Result, Ok, Err}
use Rattle.std.specs.declared.vec.Vec.{Vec}
use Rattle.disk_model.specs.Disk.{DiskView, Image, InModel, LeavesOnly, SameDisk}
use Rattle.recovery.specs.Sheets.{IsSheetImage}
use Rattle.host_events.specs.declared.event.Event.{Event}
use Rattle.host_events.specs.declared.outcome.Outcome.{Outcome}
use Rattle.host_events.specs.declared.outcome.HostFault.{HostFault}
use Rattle.host_events.specs.declared.outcome.HostFault.TheVariants as hosts
use Rattle.session_engine.specs.declared.play.PlayFault.{PlayFault}
use Rattle.session_engine.specs.declared.play.PlayFault.TheVariants as halt
use Rattle.session_engine.specs.World.{World, sheet_in}
use Rattle.session_engine.specs.Does.{Runs, following}
use Rattle.session_engine.specs.Host.{HostView, IsHost, Took}
use Rattle.session_engine.specs.Faults.{Failed}

-- An image of the worksheet after some of the first events, whose outcomes are the first of these.
pub record LeftAmong (w : World) (events : List Event) (reported : List Outcome) (i : Image) : Type 0 where
  pub done : List Event
  pub more : List Event
  pub split : events ≡ done ++ more
  pub outcomes : List Outcome
  pub later : List Outcome
  pub first : reported ≡ outcomes ++ later
  pub leads : World
  pub runs : Runs w done outcomes leads
  pub image : IsSheetImage (sheet_in leads) i

-- at every moment from this disk to that one each image is such a one
abbrev pub Moments : World → List Event → List Outcome → DiskView → DiskView → Type 0
Moments w events reported old new = InModel old (LeavesOnly (LeftAmong w events reported) old.history new.history)

-- The events but these last ones were taken, with these outcomes; the host goes on where they lead.
pub record HasPlayed (w : World) (events rest : List Event) (reported : List Outcome) (host : HostView) : Type 0 where
  pub done : List Event
  pub split : events ≡ done ++ rest
  pub leads : World
  pub runs : Runs w done reported leads
  pub stands : IsHost host leads

-- Each of these events was taken in turn, as a step takes it, with one of these outcomes: from
-- this world and host to those, on the same disk. So what writes and syncs nothing in a step does not
-- do so here.
abbrev pub TookEach : World → List Event → HostView → List Outcome → World → HostView → Type 0
TookEach w [] old [] v new = (v ≡ w) × (new ≡ old)
TookEach w (e ∷ es) old (o ∷ os) v new =
    (mid : HostView) × (took : Took w e old mid o) × SameDisk old.store.disk mid.store.disk
    × TookEach (following w took.did) es mid os v new
TookEach w [] old (o ∷ os) v new = ⊥
TookEach w (e ∷ es) old [] v new = ⊥

-- what the events so far and one that failed leave: where the disk failed, what that event was to tell belongs to it
abbrev pub MomentsBefore : World → List Event → List Outcome → HostFault → DiskView → DiskView → Type 0
MomentsBefore w events reported hosts.Closed old new = ⊥
MomentsBefore w events reported hosts.Disk old new = (withheld : Outcome) × Moments w events (reported ++ withheld ∷ []) old new
MomentsBefore w events reported hosts.OutOfMemory old new = Moments w events reported old new
MomentsBefore w events reported hosts.JournalFull old new = Moments w events reported old new

-- Events were taken with these outcomes, and the one after them had this fault. Before it the host went
-- on as said here. The later events are dropped.
pub record StoppedAt (w : World) (events : List Event) (old new : HostView) (reported : List Outcome) (fault : HostFault) : Type 0 where
  pub at : Event
  pub dropped : List Event
  pub before : HostView
  -- the same disk, as it was after them
  pub same : SameDisk old.store.disk before.store.disk
  pub played : HasPlayed w events (at ∷ dropped) reported before
  pub each : TookEach w played.done old reported played.leads before
  pub failed : Failed played.leads at before new fault
  pub closed : new.closed ≡ true
  pub moments : MomentsBefore w events reported fault old.store.disk new.store.disk

-- Why not all events were taken: there was no memory for the outcomes, and nothing happened; or an event failed.
abbrev pub Halts : World → List Event → HostView → HostView → PlayFault → Type 0
Halts w events old new (halt.NoRoom back) = (back.items ≡ events) × (new ≡ old)
Halts w events old new (halt.Stopped outcomes fault) = StoppedAt w events old new outcomes.items fault

-- On a closed host no event is taken.
abbrev pub PlaysClosed : {E : Type 0} → List Event → Result (Vec Outcome E) PlayFault → Type 0
PlaysClosed events (Ok outcomes) = (events ≡ []) × (outcomes.items ≡ [])
PlaysClosed events (Err (halt.NoRoom back)) = back.items ≡ events
PlaysClosed events (Err (halt.Stopped outcomes fault)) = (outcomes.items ≡ []) × (fault ≡ hosts.Closed)

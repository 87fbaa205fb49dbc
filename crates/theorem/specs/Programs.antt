-- What `run`, `live` and `eval` leave of a worksheet's disk, as their contracts say it: each invocation is a turn of a host.
-- (docs/trust/THEOREM.md; premises A1 to A7 in README.md.)
use Rattle.std.specs.Prelude.{◌≡◌, ℕ, IsTrue, List, [], ◌∷◌, ◌++◌, Result}
use Rattle.disk_model.specs.Disk.{DiskView, History, Image, InModel, IsRestarted, Leaves, LeavesOnly, Looks, SameDisk, bytes_on}
use Rattle.journal.specs.declared.journal.OpenFault.{OpenFault}
use Rattle.worksheet.specs.declared.op.Op.{Op}
use Rattle.worksheet.specs.Ops.{sheet_of}
use Rattle.worksheet.specs.Checks.{Allowed}
use Rattle.recovery.specs.Sheets.{IsSheetImage, IsSheetOf}
use Rattle.host_events.specs.declared.event.Event.{Event}
use Rattle.host_events.specs.declared.outcome.HostFault.{HostFault}
use Rattle.host_events.specs.declared.outcome.Outcome.{Outcome}
use Rattle.session_engine.specs.World.{World, sheet_in, world_at_opening}
use Rattle.session_engine.specs.Does.{Runs}
use Rattle.session_engine.specs.Crash.{Moments}
use Rattle.session_engine.specs.Faults.{CauseOf}
use Rattle.session_engine.specs.Host.{EndsAt, HostView}
use Rattle.host_laws.specs.Turns.{HostTurn}
use Rattle.theorem.specs.Story.{CrashedSince, Opens}

-- A read of a disk, which keeps the model (A1), gives this image (A3), and a host was opened on it, of a worksheet of these ops; this is the
-- disk then. Nothing is asked of what a crash could have left before: after a kill the system may still be writing, and the opening makes
-- durable what it reads.
pub record Begun (before : Image) (disk : DiskView) (ops : List Op) (end : ℕ) (now : DiskView) : Type 0 where
  pub keeps_model : IsTrue disk.keeps_model
  pub read : bytes_on disk ≡ before
  pub allowed : Allowed ops
  pub found : IsSheetImage (sheet_of ops) before
  pub ends : EndsAt before end
  pub kept : IsTrue now.keeps_model

-- From this world and disk these events led to those, with these outcomes. At every moment each image was one of the worksheet after some of
-- the first of them, and at the end each is one of the worksheet after all.
pub record Course (w : World) (d : DiskView) (events : List Event) (outcomes : List Outcome) (v : World) (f : DiskView) : Type 0 where
  pub runs : Runs w events outcomes v
  pub same : SameDisk d f
  pub moments : Moments w events outcomes d f
  pub holds : InModel f (Leaves (IsSheetImage (sheet_in v)) f.history.now)

-- How it came to an end, from this world and disk: at once; at an event that had a fault; or in a group in which the disk failed. These events
-- are those of which nothing was reported.
pub data EndedAs (w : World) (d : DiskView) : List Event → DiskView → Type 0 where
  well : EndedAs w d [] d
  at_event : (e : Event) (f : HostFault) (back : DiskView) → SameDisk d back → CauseOf w e d back f → EndedAs w d (e ∷ []) back
  in_group : (taken dropped : List Event) (withheld : List Outcome) (leads : World) (back : DiskView) → Runs w taken withheld leads → SameDisk d back
      → InModel d (LeavesOnly (IsSheetOf (sheet_in w) (sheet_in leads)) d.history back.history) → EndedAs w d (taken ++ dropped) back

-- An invocation that opened the worksheet, with these events, of which these outcomes are what its output reports where it came to an end.
pub record Visit (before : Image) (disk : DiskView) (turn : HostTurn) (back : DiskView) : Type 0 where
  pub ops : List Op
  pub end : ℕ
  pub now : DiskView
  pub begun : Begun before disk ops end now
  pub events : List Event
  pub leads : World
  pub mid : DiskView
  pub course : Course (world_at_opening ops disk.room end) now events turn.reported leads mid
  pub unreported : List Event
  pub ended : EndedAs leads mid unreported back
  pub is : turn.events ≡ events ++ unreported

-- An image of the worksheet after some of the first of these events, with all those among them of which these are the outcomes.
pub record HasReported (w : World) (events : List Event) (reported : List Outcome) (i : Image) : Type 0 where
  pub taken : List Event
  pub lost : List Event
  pub split : events ≡ taken ++ lost
  pub withheld : List Outcome
  pub leads : World
  pub runs : Runs w taken (reported ++ withheld) leads
  pub image : IsSheetImage (sheet_in leads) i

-- One invocation after another on the same files, each on the image that the one before it left (A3), all with the same room (A4).
pub data Invocations (room : ℕ) : Image → List HostTurn → Image → Type 0 where
  no_more : {at : Image} → Invocations room at [] at
  -- it made reads alone, as one does that is cut off in its opening
  looked : {before mid after : Image} {turns : List HostTurn} (disk back : DiskView) → IsRestarted before disk → Looks disk.history back.history
      → CrashedSince disk.history back.history mid → Invocations room mid turns after → Invocations room before turns after
  -- A crash came at a moment of it (A5), and what it had reported by then isn't known.
  cut_off : {before mid after : Image} {turn : HostTurn} {turns : List HostTurn} (disk back : DiskView) → disk.room ≡ room → (v : Visit before disk turn back)
      → CrashedSince v.now.history back.history mid → Invocations room mid turns after
      → Invocations room before (record { events = turn.events; reported = [] } ∷ turns) after
  -- A crash came at or after a moment of the disk from which on each image has what these outcomes say, and they were reported no earlier (A6).
  -- Of what is driven a law says which moment that is (crate `driver_visits`).
  cut_since : {before mid after : Image} {turn : HostTurn} {turns : List HostTurn} (disk back : DiskView) → disk.room ≡ room → (v : Visit before disk turn back)
      → (reported : List Outcome) (at : History) → LeavesOnly (HasReported (world_at_opening v.ops disk.room v.end) turn.events reported) at back.history
      → CrashedSince at back.history mid → Invocations room mid turns after
      → Invocations room before (record { events = turn.events; reported = reported } ∷ turns) after
  -- it ended, with all reported, and a crash came later or none at all
  ended : {before mid after : Image} {turn : HostTurn} {turns : List HostTurn} (disk back : DiskView) → disk.room ≡ room → Visit before disk turn back
      → CrashedSince back.history back.history mid → Invocations room mid turns after
      → Invocations room before (turn ∷ turns) after

-- The same theorem of the programs, of what is opened on this disk.
abbrev pub OpensAfterPrograms : {D : Type 0} → DiskView → Result HostView (OpenFault D) → Type 0
OpensAfterPrograms disk result = InModel disk ((room : ℕ) (first : List Op) (before : Image) (turns : List HostTurn)
    → Allowed first → IsSheetImage (sheet_of first) before → Invocations room before turns (bytes_on disk)
    → Opens room first before (bytes_on disk) turns result)

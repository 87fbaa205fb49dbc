-- Which host stands for a world, and what a step of it and its opening give. (docs/dev/HOST.md, "The calls".)
use Rattle.std.specs.Prelude.{◌≡◌, ◌≤◌, ◌⊎◌, ℕ, List, [], ◌∷◌, ◌++◌, Bool, true, false, Option, Some, None, option_map, Result, Ok, Err}
use Rattle.std.specs.List.{AllByRecursion}
use Rattle.disk_model.specs.Disk.{DiskView, Image, InModel, Leaves, LeavesOnly}
use Rattle.worksheet.specs.declared.op.Op.{Op}
use Rattle.worksheet.specs.Contents.{Contents}
use Rattle.worksheet.specs.Ops.{sheet_of}
use Rattle.worksheet.specs.Checks.{Allowed, field_in}
use Rattle.journal.specs.declared.journal.OpenFault.{OpenFault}
use Rattle.journal.specs.Open.{IsPassing}
use Rattle.journal.specs.Area.{end_of}
use Rattle.journal.specs.Kept.{ImageStandsFor as StandsForPayloads}
use Rattle.recovery.specs.Sheets.{StoreView, IsSheetImage}
use Rattle.plugin_core.specs.declared.item.Item.{Item}
use Rattle.plugin_core.specs.declared.item.Item.TheVariants as item
use Rattle.plugin_core.specs.Kept.{LifeHasPast}
use Rattle.session_engine.specs.Limits.{most_lives}
use Rattle.session_engine.specs.Named.{NamesDiffer, first_named}
use Rattle.session_engine.specs.declared.table.Running.{Running}
use Rattle.host_events.specs.declared.event.Event.{Event}
use Rattle.host_events.specs.declared.outcome.Outcome.{Outcome}
use Rattle.session_engine.specs.World.{World, Going, waiting_in, sheet_in}
use Rattle.session_engine.specs.Does.{Does, MayDo, following}

-- A host as contracts see it: its store, the lives that it runs, how many it has begun, and whether it is closed.
pub record HostView : Type 0 where
  pub store : StoreView
  pub lives : List Running
  pub begun : ℕ
  pub closed : Bool

-- the name of its session
abbrev pub name_of : Running → List ℕ
name_of r = r.name

-- the life of a session that a host runs
abbrev pub life_in : List Running → List ℕ → Option Running
life_in rs name = first_named name_of name rs

-- its number
abbrev pub number_in : List Running → List ℕ → Option ℕ
number_in rs name = option_map (λ r. r.life.number) (life_in rs name)

-- the host runs a life that goes on
pub record RunsAs (r : Running) (l : Going) : Type 0 where
  pub name : r.name ≡ l.name
  pub number : r.life.number ≡ l.number
  pub stands : LifeHasPast r.life l.past l.blocks

-- it runs these lives, and no other
abbrev pub Lives : List Running → List Going → Type 0
Lives [] [] = Unit {0}
Lives (r ∷ rs) (l ∷ ls) = RunsAs r l × Lives rs ls
Lives [] (l ∷ ls) = ⊥
Lives (r ∷ rs) [] = ⊥

-- the session of the field with this number, if there is one
abbrev pub owner_in : Contents → ℕ → Option (List ℕ)
owner_in sheet id = option_map (λ f. f.session) (field_in sheet.fields id)

-- a line is that of a field of this session; the field of a request of completions may have been removed
abbrev pub HasField : Contents → List ℕ → Item → Type 0
HasField sheet name (item.Line id text) = owner_in sheet id ≡ Some name
HasField sheet name (item.Complete id text cursor) = Unit {0}

-- each line that waits is that of a field of the life's session
abbrev pub HaveFields : Contents → Going → Type 0
HaveFields sheet l = AllByRecursion (HasField sheet l.name) (waiting_in l)

-- The parts of a host stand for a world: its worksheet is the world's, each image of its disk is one of that, and it runs the
-- world's lives, no two of one session.
pub record EngineStandsFor (store : StoreView) (lives : List Running) (begun : ℕ) (w : World) : Type 0 where
  pub still_open : store.closed ≡ false
  pub contents : store.sheet.contents ≡ sheet_in w
  pub allowed : Allowed w.ops
  pub images : InModel store.disk (Leaves (IsSheetImage (sheet_in w)) store.disk.history.now)
  pub room : store.disk.room ≡ w.room
  pub end : store.end ≡ w.end
  pub begun_is : begun ≡ w.begun
  pub bound : w.begun ≤ most_lives
  pub lives_are : Lives lives w.lives
  pub fields : AllByRecursion (HaveFields (sheet_in w)) w.lives
  pub apart : NamesDiffer (λ l. l.name) w.lives

-- the host isn't closed, and stands for the world
pub record IsHost (h : HostView) (w : World) : Type 0 where
  pub works : h.closed ≡ false
  pub stands : EngineStandsFor h.store h.lives h.begun w

-- What an event does to a disk with the worksheet of these ops, by whether it rewrites the journal and by the op that it gives,
-- or none. Without both no call of the disk is made, and its view is as it was. While one that gives an op goes on, each image at every
-- moment is one of the worksheet before it, or of that with the op. While the journal is rewritten, each is one of the same worksheet.
abbrev pub OnDisk : List Op → Bool → Option Op → DiskView → DiskView → Type 0
OnDisk ops false None old new = new ≡ old
OnDisk ops false (Some o) old new = InModel old (LeavesOnly (λ i. IsSheetImage (sheet_of ops) i ⊎ IsSheetImage (sheet_of (ops ++ o ∷ [])) i) old.history new.history)
OnDisk ops true given old new = InModel old (LeavesOnly (IsSheetImage (sheet_of ops)) old.history new.history)

-- The event did this, its outcome was returned, and the host goes on after it.
pub record Took (w : World) (e : Event) (old new : HostView) (o : Outcome) : Type 0 where
  pub did : Does
  pub may : MayDo w e did
  pub reported : o ≡ did.reported
  pub stands : IsHost new (following w did)
  pub disk : OnDisk w.ops did.again did.op old.store.disk new.store.disk

-- the disk that an opening leaves
abbrev pub disk_of_opening : {D : Type 0} → (D → DiskView) → Result HostView (OpenFault D) → DiskView
disk_of_opening view (Ok host) = host.store.disk
disk_of_opening view (Err fault) = view fault.disk

-- the image stands for payloads that end at this offset
abbrev pub EndsAt : Image → ℕ → Type 0
EndsAt i end = (payloads : List (List ℕ)) × StandsForPayloads i payloads × (end ≡ end_of payloads)

-- a host with this worksheet, or a cause that isn't in the bytes: the disk failed, or memory was refused
abbrev pub HostGivesSheet : {D : Type 0} → Contents → Result HostView (OpenFault D) → Type 0
HostGivesSheet sheet (Ok host) = host.store.sheet.contents ≡ sheet
HostGivesSheet sheet (Err fault) = IsPassing fault.cause

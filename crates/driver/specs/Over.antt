-- A program over a disk: it is opened, the agenda is driven to its end or to a fault, each life that goes on is stopped, and all is given back.
use Rattle.std.specs.Prelude.{◌≡◌, ℕ, List, [], ◌∷◌, Result, Err}
use Rattle.disk_model.specs.Disk.{DiskView, InModel, Looks, Rises, SameDisk, bytes_on}
use Rattle.worksheet.specs.declared.op.Op.{Op}
use Rattle.worksheet.specs.Ops.{sheet_of}
use Rattle.worksheet.specs.Checks.{Allowed}
use Rattle.journal.specs.declared.opening.OpenCause.{OpenCause}
use Rattle.journal.specs.declared.opening.OpenCause.TheVariants as opens
use Rattle.recovery.specs.Sheets.{IsSheetImage, TellsOfSheet}
use Rattle.session_engine.specs.World.{World, world_at_opening}
use Rattle.session_engine.specs.Host.{EndsAt, HostView}
use Rattle.child_edge.specs.Kept.{HoldsSheet}
use Rattle.offline_programs.specs.declared.fault.RunFault.{RunFault}
use Rattle.offline_programs.specs.declared.fault.RunFault.TheVariants as fault
use Rattle.driver.specs.Items.{RunStep, ask}
use Rattle.driver.specs.Place.{RunPlace, Rules}
use Rattle.driver.specs.Steps.{Run}
use Rattle.driver.specs.Runs.{StandsBy, left_at_end}
use Rattle.driver.specs.Stopping.{StopsAll}

-- What a program is given, and gives back.
pub record ProgramParts (A C K : Type 0) : Type 0 where
  pub disk : DiskView
  pub sources : C
  pub sink : K
  pub agenda : A

abbrev pub program_parts : {A C K : Type 0} → DiskView → C → K → A → ProgramParts A C K
program_parts disk sources sink agenda = record { disk = disk; sources = sources; sink = sink; agenda = agenda }

-- The disk was opened: these allowed ops make the worksheet that was found there, and the journal ends there. That changed no byte and left no
-- image that is new, and on the disk after it each image is one of that worksheet.
pub record SheetOpened (disk : DiskView) : Type 0 where
  pub ops : List Op
  pub end : ℕ
  pub now : DiskView
  pub allowed : Allowed ops
  pub found : InModel disk (IsSheetImage (sheet_of ops) (bytes_on disk))
  pub ends : InModel disk (EndsAt (bytes_on disk) end)
  pub looks : InModel disk (Looks disk.history now.history)
  pub same : SameDisk disk now
  pub holds : HoldsSheet (world_at_opening ops disk.room end) now

-- where the run begins
abbrev pub first_place : {A C K : Type 0} → (x : ProgramParts A C K) → SheetOpened x.disk → RunPlace A C K
first_place x o = record { asked = 0; agenda = x.agenda; world = world_at_opening o.ops x.disk.room o.end; disk = o.now; sources = x.sources; sink = x.sink }

-- The steps that were taken, from where it began to where this was answered; each life that went on then was stopped. What is given back is what
-- the steps led to.
pub record RanOver {A C K : Type 0} (R : Rules A C K) (first last : ProgramParts A C K) (answer : Result (Unit {0}) RunFault) : Type 0 where
  pub opened : SheetOpened first.disk
  pub steps : List RunStep
  pub asked : ℕ
  pub world : World
  pub sources : C
  pub host : HostView
  pub ran : Run R (first_place first opened) (ask ∷ []) steps (left_at_end answer)
      (record { asked = asked; agenda = last.agenda; world = world; disk = last.disk; sources = sources; sink = last.sink })
  pub stands : StandsBy answer host world
  pub disk_is : last.disk ≡ host.store.disk
  pub stops : StopsAll R.sources.after host world sources last.sources

-- The disk wasn't opened, and nothing else was done.
pub record WasNotOpened {A C K : Type 0} (first last : ProgramParts A C K) (why : OpenCause) : Type 0 where
  pub sources : last.sources ≡ first.sources
  pub sink : last.sink ≡ first.sink
  pub agenda : last.agenda ≡ first.agenda
  pub tells : InModel first.disk (TellsOfSheet (bytes_on first.disk) why)
  pub looks : InModel first.disk (Looks first.disk.history last.disk.history)
  -- that the disk failed is reported only where it did, and else no call of it failed
  pub failed : why ≡ opens.Disk → Rises first.disk.faults last.disk.faults
  pub steady : (why ≡ opens.Disk → ⊥) → last.disk.faults ≡ first.disk.faults

-- one of the two
pub data Over {A C K : Type 0} (R : Rules A C K) (first last : ProgramParts A C K) : Result (Unit {0}) RunFault → Type 0 where
  ran_over : (answer : Result (Unit {0}) RunFault) → RanOver R first last answer → Over R first last answer
  not_opened : (why : OpenCause) → WasNotOpened first last why → Over R first last (Err (fault.Open why))

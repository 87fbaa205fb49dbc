-- One run of a program, after whatever uses of it there were: what a crash at any moment of it leaves, and what opens when it has ended. So the contract
-- of `run_over`, the laws of this crate and the theorem are one statement. (docs/trust/THEOREM.md; premises A1 to A7 in the README of crate `theorem`.)
use Rattle.std.specs.Prelude.{◌≡◌, ◌<◌, ◌≤◌, ℕ, IsTrue, List, [], ◌∷◌, ◌++◌, length, true, Result, Err}
use Rattle.disk_model.specs.Disk.{AtMoment, DiskState, DiskView, History, Image, IsImage, IsRestarted, Looks, SameDisk, bytes_on}
use Rattle.journal.specs.declared.journal.OpenFault.{OpenFault}
use Rattle.journal.specs.declared.opening.OpenCause.{OpenCause}
use Rattle.disk_model.specs.Crash.{image_named}
use Rattle.disk_model.specs.declared.crash.Choice.{Choice}
use Rattle.disk_model.specs.declared.memory.MemoryDisk.{MemoryDisk}
use Rattle.host_events.specs.declared.event.Event.{Event}
use Rattle.session_engine.specs.Host.{HostView}
use Rattle.host_laws.specs.Turns.{HostTurn}
use Rattle.child_edge.specs.Moments.{outcomes_of}
use Rattle.theorem.specs.Story.{CrashedSince}
use Rattle.theorem.specs.Acts.{Act, OpensAfterActs, OpensSo, hosted}
use Rattle.offline_programs.specs.declared.fault.RunFault.{RunFault}
use Rattle.offline_programs.specs.declared.fault.RunFault.TheVariants as fault
use Rattle.driver.specs.Reports.{Report, printed_text}
use Rattle.driver.specs.Items.{Item, RunStep, ask, printed}
use Rattle.driver.specs.Place.{RunPlace, Rules, Tries}
use Rattle.driver.specs.Steps.{Run}
use Rattle.driver.specs.Laws.{trace}
use Rattle.driver.specs.Over.{ProgramParts, RanOver, WasNotOpened, first_place, program_parts}
use Rattle.driver_visits.specs.declared.crashed.AfterCrash.{AfterCrash}
use Rattle.driver_visits.specs.declared.crashed.AfterCrash.TheVariants as crashed_to
use Rattle.driver_visits.specs.Visits.{turn_of}
use Rattle.driver_visits.specs.Earlier.{CrashesLeave, EarlierUses}
use Rattle.driver_visits.specs.Printed.{IsReportOf}
use Rattle.driver_visits.specs.Tried.{TriedLast}

-- A crash while the worksheet is opened leaves what was there, on a disk that was restarted.
abbrev pub OpeningLeaves : DiskView → History → Type 0
OpeningLeaves disk opened = IsRestarted (bytes_on disk) disk → (after : Image) → CrashedSince disk.history opened after → after ≡ bytes_on disk

-- a run that had this turn
abbrev pub run_act : HostTurn → Act
run_act turn = hosted (turn ∷ [])

-- a run that had this turn, of which it isn't known what it reported
abbrev pub unknown_reports : HostTurn → Act
unknown_reports turn = run_act (record { events = turn.events; reported = [] })

-- a run that took the events of these steps, and those, of which nothing was reported, and had reported what it took by then
abbrev pub run_reporting : List RunStep → List Event → List RunStep → Act
run_reporting steps unreported done = run_act (record { events = (turn_of steps unreported).events; reported = outcomes_of (trace done) })

-- This was printed where these steps, the first of the run, had led, and it is of what they came to. A crash since its text was tried leaves the events of all
-- these steps: they are among what was reported, by the turn that has these events at its end of which nothing was.
pub record LeavesPrinted {A C K : Type 0} (R : Rules A C K) (first last : ProgramParts A C K) (answer : Result (Unit {0}) RunFault) (it : RanOver R first last answer) (e : EarlierUses first.disk) (done : List RunStep) (r : Report) : Type 0 where
  pub there : RunPlace A C K
  pub to_do : List Item
  pub ran : Run R (first_place first it.opened) (ask ∷ []) done to_do there
  pub of : IsReportOf done r
  pub sink : K
  pub tries : Tries R.sink there.sink there.disk (printed_text R.sink.voice there.world r) true sink
  pub unreported : List Event
  pub tried : TriedLast R (first_place first it.opened) (ask ∷ []) it.steps unreported
  pub since : CrashesLeave first.disk e (run_reporting it.steps unreported done) there.disk.history last.disk.history

-- A crash at any moment of a run that opened the worksheet leaves the worksheet after a prefix of its events, which has all that was printed by then;
-- and what is opened on the disk that the run gave back is the worksheet with all that it reported.
pub record LeavesPrefix {A C K D : Type 0} (R : Rules A C K) (first last : ProgramParts A C K) (answer : Result (Unit {0}) RunFault) (opened : Result HostView (OpenFault D)) (it : RanOver R first last answer) (e : EarlierUses first.disk) : Type 0 where
  pub unreported : List Event
  pub tried : TriedLast R (first_place first it.opened) (ask ∷ []) it.steps unreported
  pub opening : OpeningLeaves first.disk it.opened.now.history
  pub within : CrashesLeave first.disk e (unknown_reports (turn_of it.steps unreported)) it.opened.now.history last.disk.history
  pub printed_is : (done rest : List RunStep) (r : Report) → it.steps ≡ done ++ printed r ∷ rest → LeavesPrinted R first last answer it e done r
  pub ended : CrashesLeave first.disk e (run_act (turn_of it.steps unreported)) last.disk.history last.disk.history
  pub opens : OpensSo first.disk.room e.ops e.image (bytes_on last.disk) (e.acts ++ run_act (turn_of it.steps unreported) ∷ []) opened

-- A disk was opened, which left that and no image that is new.
pub record OpenedAgain (disk later : DiskView) : Type 0 where
  pub same : SameDisk disk later
  pub looks : Looks disk.history later.history

-- what was given back, with the disk as it was then
abbrev pub with_disk : {A C K : Type 0} → DiskView → ProgramParts A C K → ProgramParts A C K
with_disk disk back = program_parts disk back.sources back.sink back.agenda

-- What a run over a disk, and an opening after it, came to: it ran, and leaves that; or it didn't open the worksheet, left what was there, and that is
-- what is opened, unless it fails again. What is given back has the disk as the opening left it.
pub data RunsThenOpens {A C K D : Type 0} (R : Rules A C K) (first back : ProgramParts A C K) (opened : Result HostView (OpenFault D)) : Result (Unit {0}) RunFault → Type 0 where
  ran : (answer : Result (Unit {0}) RunFault) (disk : DiskView) → OpenedAgain disk back.disk → (it : RanOver R first (with_disk disk back) answer)
      → ((e : EarlierUses first.disk) → LeavesPrefix R first (with_disk disk back) answer opened it e) → RunsThenOpens R first back opened answer
  unopened : (why : OpenCause) (disk : DiskView) → OpenedAgain disk back.disk → WasNotOpened first (with_disk disk back) why → OpeningLeaves first.disk disk.history
      → ((e : EarlierUses first.disk) → OpensSo first.disk.room e.ops e.image (bytes_on disk) e.acts opened) → RunsThenOpens R first back opened (Err (fault.Open why))

-- A crash by this choice left an image of a disk, and this was opened on a disk that holds it: what the theorem says.
pub record OpensCrashed {D : Type 0} (choice : Choice) (disk : DiskView) (opened : Result HostView (OpenFault D)) : Type 0 where
  pub state : DiskState
  pub at : AtMoment choice.moment disk.history state
  pub crash : DiskView
  pub named : bytes_on crash ≡ image_named choice.fill choice.grown state
  pub image : IsImage state (bytes_on crash)
  pub keeps_model : IsTrue crash.keeps_model
  pub opens : OpensAfterActs crash opened

-- What is opened on the image that a crash left at this moment of a run: what was there, while the worksheet was being opened, on a disk that was restarted;
-- where it had been opened by then, the worksheet after a prefix of the run's events, which has all that had been printed.
pub record OpensAfterCrash {A C K D : Type 0} (R : Rules A C K) (first last : ProgramParts A C K) (answer : Result (Unit {0}) RunFault) (it : RanOver R first last answer) (moment : ℕ) (after : Image) (opened : Result HostView (OpenFault D)) (e : EarlierUses first.disk) : Type 0 where
  pub unreported : List Event
  pub tried : TriedLast R (first_place first it.opened) (ask ∷ []) it.steps unreported
  pub opening : IsRestarted (bytes_on first.disk) first.disk → length first.disk.history.past ≤ moment → moment ≤ length it.opened.now.history.past
      → OpensSo first.disk.room e.ops e.image after e.acts opened
  pub within : length it.opened.now.history.past ≤ moment → OpensSo first.disk.room e.ops e.image after (e.acts ++ unknown_reports (turn_of it.steps unreported) ∷ []) opened
  pub printed_is : (done rest : List RunStep) (r : Report) → it.steps ≡ done ++ printed r ∷ rest
      → (p : LeavesPrinted R first last answer it e done r)
      × (length p.there.disk.history.past ≤ moment → OpensSo first.disk.room e.ops e.image after (e.acts ++ run_reporting it.steps p.unreported done ∷ []) opened)

-- What is opened of a disk after a crash by this choice: nothing where the disk saw fewer calls than that; where it saw as many that is opened of which this
-- is so, but where memory is refused.
abbrev pub CrashOpens : Choice → DiskView → (Result HostView (OpenFault MemoryDisk) → Type 0) → AfterCrash → Type 0
CrashOpens choice disk So crashed_to.NotReached = length disk.history.past < choice.moment
CrashOpens choice disk So crashed_to.NoMemory = choice.moment ≤ length disk.history.past
CrashOpens choice disk So (crashed_to.Opened opened) = So opened

-- A run over a disk was answered so, a crash by this choice left this image of the disk, and that was opened.
pub data RunsThenCrashes {A C K D : Type 0} (R : Rules A C K) (first last : ProgramParts A C K) (choice : Choice) (opened : Result HostView (OpenFault D)) : Result (Unit {0}) RunFault → Type 0 where
  was_cut : (answer : Result (Unit {0}) RunFault) (state : DiskState) (after : Image) (it : RanOver R first last answer)
      → AtMoment choice.moment last.disk.history state → after ≡ image_named choice.fill choice.grown state → IsImage state after
      → ((e : EarlierUses first.disk) → OpensAfterCrash R first last answer it choice.moment after opened e)
      → RunsThenCrashes R first last choice opened answer
  -- It didn't open the worksheet. A crash while it tried to leaves what was there, on a disk that was restarted, and that is what is opened.
  not_begun : (why : OpenCause) (state : DiskState) (after : Image) → WasNotOpened first last why
      → AtMoment choice.moment last.disk.history state → after ≡ image_named choice.fill choice.grown state → IsImage state after
      → ((e : EarlierUses first.disk) → IsRestarted (bytes_on first.disk) first.disk → length first.disk.history.past ≤ choice.moment
      → OpensSo first.disk.room e.ops e.image after e.acts opened) → RunsThenCrashes R first last choice opened (Err (fault.Open why))

-- How the program `rescue` ends: what it reads and writes, what it tells on which stream, and the exit
-- status.
use Rattle.std.specs.Prelude.{◌≡◌, ℕ, Bool, false, Option, Some, Result, Ok, Err, IfOk, IfErr}
use Rattle.std.specs.Io.KnownBytes.{Appends}
use Rattle.journal.specs.declared.opening.CreateCause.TheVariants as creates
use Rattle.recovery.specs.declared.rescuing.Rescued.{Rescued}
use Rattle.offline_programs.specs.Saying.{Saying}
use Rattle.offline_programs.specs.Rescue.{FrontIsRead, RescueIsSaved, kept_text}
use Rattle.offline_programs.specs.declared.fault.RunFault.{RunFault}
use Rattle.offline_programs.specs.declared.fault.RunFault.TheVariants as fault
use Rattle.offline_programs.specs.declared.rescuing.RescueFault.{RescueFault}
use Rattle.offline_programs.specs.declared.rescuing.RescueFault.TheVariants as rescues
use Rattle.program_endings.specs.Ending.{TellsFault}
use Rattle.program_endings.specs.Faults.{no_files}
use Rattle.program_endings.specs.Programs.{TellsMake}
use Rattle.program_endings.specs.Records.{GivenDisk, given_disk, view_given}
use Rattle.program_endings.specs.declared.ending.Ending.{Ending}
use Rattle.sheet_files.specs.Closing.{Closable}
use Rattle.sheet_files.specs.declared.files_fault.FilesFault.{FilesFault}
use Rattle.sheet_files.specs.declared.files_fault.MakeFault.{MakeFault}
use Rattle.sheet_files.specs.declared.files_fault.MakeFault.TheVariants as makes

-- What `rescue` reads of a disk, which is closed where nothing is found.
abbrev pub DiskIsRead : {D : Type 0} → Closable D → D → Result (Rescued D) RunFault → Type 0
DiskIsRead {D = D} k disk answer =
    (after : D) × FrontIsRead k.view disk after answer × IfErr answer (λ why. k.closed after)

-- What `rescue` reads of its files, or answers where they weren't opened.
abbrev pub FilesAreRead : {D : Type 0} → Closable D → Result D FilesFault
    → Result (Rescued D) RunFault → Type 0
FilesAreRead k files answer = IfErr files (λ why. answer ≡ Err (no_files why))
    × IfOk files (λ disk. DiskIsRead k disk answer)

abbrev pub rescue_status : Result Unit RescueFault → ℕ
rescue_status (Ok u) = 0
rescue_status (Err why) = 1

-- why nothing was rescued is a line that is said on the stream of errors
abbrev pub TellsRescueFault : {E : Type 0} → Saying E → Bool → RescueFault → Type 0
TellsRescueFault errors reported rescues.NotEmpty = TellsMake errors reported (makes.Create creates.NotEmpty)
TellsRescueFault errors reported (rescues.Run why) = TellsFault errors reported (Err why)

-- nothing stands there where it went well
abbrev pub TellsRescued : {E : Type 0} → Saying E → Bool → Result Unit RescueFault → Type 0
TellsRescued errors reported (Ok u) = errors.new ≡ errors.old
TellsRescued errors reported (Err why) = TellsRescueFault errors reported why

-- how much was kept is a line that is said on the output, which is the fault of it only where that didn't go out; another fault has
-- written nothing
abbrev pub WritesKept : {W : Type 0} → Saying W → ℕ → Option ℕ → Result Unit RescueFault → Type 0
WritesKept output kept damage (Ok u) = Appends (output.contents output.old) (output.contents output.new) (kept_text kept damage)
WritesKept output kept damage (Err why) = (why ≡ rescues.Run fault.Output → output.tried output.old (Some (kept_text kept damage)) false output.new)
    × ((why ≡ rescues.Run fault.Output → ⊥) → output.new ≡ output.old)

-- Both streams of it, as it says something on them.
pub record SaidStreams (W E : Type 0) : Type 1 where
  pub output : Saying W
  pub errors : Saying E

abbrev pub said_streams : {W E : Type 0} → Saying W → Saying E → SaidStreams W E
said_streams output errors = record { output = output; errors = errors }

-- How `rescue` ends on a new disk: as which the disk was closed, what is written to both streams, and the status.
abbrev pub RescueDone : {D N W E : Type 0} → GivenDisk N → Rescued D → SaidStreams W E → Ending → Type 0
RescueDone {N = N} g found s ending =
    (later : N) × g.how.closed later × ((answer : Result Unit RescueFault)
    × RescueIsSaved (view_given g) (g.how.view later) found.sheet.contents answer
    × WritesKept s.output found.kept found.damage answer
    × (ending.status ≡ rescue_status answer) × TellsRescued s.errors ending.reported answer)

-- So on the files of the new worksheet, or on why they weren't made. The disk that was rescued from is closed as it was found.
abbrev pub RescueEnds : {D N W E : Type 0} → (D → Type 0) → Closable N → Result N MakeFault → Rescued D → SaidStreams W E → Ending → Type 0
RescueEnds closed k files found s ending = closed found.disk
    × IfErr files (λ why. (s.output.new ≡ s.output.old) × (ending.status ≡ 1) × TellsMake s.errors ending.reported why)
    × IfOk files (λ disk. RescueDone (given_disk k disk) found s ending)

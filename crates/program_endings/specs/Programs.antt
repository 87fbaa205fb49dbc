-- How the programs over a worksheet's files end: what becomes of the disk, what is written on which
-- stream, and the exit status.
use Rattle.std.specs.Prelude.{◌≡◌, ℕ, Bool, true, [], Option, Some, None, Result, Err, IfOk, IfErr, IsErrOf}
use Rattle.std.specs.Io.KnownBytes.{Appends}
use Rattle.disk_model.specs.Disk.{DiskView, InModel, Leaves, Looks, Rises, SameDisk, bytes_on}
use Rattle.worksheet.specs.Contents.{Contents}
use Rattle.worksheet.specs.Ops.{sheet_of}
use Rattle.journal.specs.Open.{AreEmpty}
use Rattle.journal.specs.declared.opening.CreateCause.{CreateCause}
use Rattle.journal.specs.declared.opening.CreateCause.TheVariants as creates
use Rattle.journal.specs.declared.opening.OpenCause.TheVariants as opens
use Rattle.recovery.specs.Sheets.{IsSheetImage}
use Rattle.sheet_text.specs.Texts.{sheet_text}
use Rattle.program_endings.specs.Ending.{EndsAs, ProgramAnswer}
use Rattle.program_endings.specs.Records.{DoesNothing, GivenDisk, ProgramPassage, Streams, Writing, given_disk, text_after, text_before, view_given}
use Rattle.program_endings.specs.declared.ending.Ending.{Ending}
use Rattle.offline_programs.specs.Faults.{TellsShow}
use Rattle.offline_programs.specs.Saying.{IsSaid, Saying}
use Rattle.program_endings.specs.Faults.{create_fault_text, no_files}
use Rattle.sheet_files.specs.Closing.{Closable}
use Rattle.sheet_files.specs.declared.files_fault.FilesFault.{FilesFault}
use Rattle.sheet_files.specs.declared.files_fault.MakeFault.{MakeFault}
use Rattle.sheet_files.specs.declared.files_fault.MakeFault.TheVariants as makes
use Rattle.offline_programs.specs.declared.fault.RunFault.TheVariants as fault

-- what `create` answers: why there is no worksheet, or nothing
abbrev pub CreateAnswer : Type 0
CreateAnswer = Option CreateCause

abbrev pub create_status : CreateAnswer → ℕ
create_status None = 0
create_status (Some why) = 1

-- why no worksheet was made is a line that is said on the stream of errors; nothing else stands there
abbrev pub TellsMake : {E : Type 0} → Saying E → Bool → MakeFault → Type 0
TellsMake errors reported why = IsSaid errors (create_fault_text why) reported

-- the same of what `create` answers: nothing stands there where it made a worksheet
abbrev pub TellsCreate : {E : Type 0} → Saying E → Bool → CreateAnswer → Type 0
TellsCreate errors reported None = errors.new ≡ errors.old
TellsCreate errors reported (Some why) = TellsMake errors reported (makes.Create why)

-- What `create` makes of a disk, and what it answers: its clauses.
pub record Creates (old new : DiskView) (answer : CreateAnswer) : Type 0 where
  pub same : SameDisk old new
  -- the disk was empty, and whatever a crash leaves is an image of the empty worksheet
  pub made : InModel old
      (answer ≡ None
      → AreEmpty (bytes_on old) × Leaves (IsSheetImage (sheet_of [])) new.history.now)
  pub not_empty : InModel old (answer ≡ Some creates.NotEmpty → AreEmpty (bytes_on old) → ⊥)
  -- a disk that isn't empty is left as it was, whatever fails
  pub untouched : InModel old ((AreEmpty (bytes_on old) → ⊥) → Looks old.history new.history)
  pub faulty : answer ≡ Some creates.Disk → Rises old.faults new.faults

-- how `create` ends on a disk, as which the disk was closed, and what is said of it
abbrev pub CreateEnds : {D E : Type 0} → GivenDisk D → Saying E → Ending → Type 0
CreateEnds {D = D} g errors ending =
    (later : D) × g.how.closed later × ((answer : CreateAnswer) × Creates (view_given g) (g.how.view later) answer
    × (ending.status ≡ create_status answer) × TellsCreate errors ending.reported answer)

-- What `show` answers on a disk, and what it has written then.
pub record ShownOf {D W : Type 0} (g : GivenDisk D) (w : Writing W) (answer : ProgramAnswer) : Type 0 where
  -- the disk, on which reads alone were made, as it was closed
  pub later : D
  pub closed : g.how.closed later
  pub whole : IfOk answer (λ whole. whole ≡ true)
  pub shown : InModel (view_given g)
      ((sheet : Contents) → IsSheetImage sheet (bytes_on (view_given g))
      → IfOk answer (λ whole. Appends (text_before w) (text_after w) (sheet_text sheet)))
  pub found : InModel (view_given g)
      (IfOk answer (λ whole. (sheet : Contents) × IsSheetImage sheet (bytes_on (view_given g))))
  pub same : SameDisk (view_given g) (g.how.view later)
  pub looks : InModel (view_given g) (Looks (view_given g).history (g.how.view later).history)
  -- that the disk failed is reported only where it did
  pub failed : IsErrOf answer (fault.Open opens.Disk) → Rises (view_given g).faults (g.how.view later).faults
  -- and where anything else is answered no call of it failed
  pub steady : (IsErrOf answer (fault.Open opens.Disk) → ⊥) → (g.how.view later).faults ≡ (view_given g).faults
  pub fault : IfErr answer (TellsShow (view_given g) (w.new ≡ w.old))

-- What `show` answers on its files, or on why they weren't opened.
abbrev pub ShowAnswer : {D W : Type 0} → Closable D → Result D FilesFault → Writing W → ProgramAnswer → Type 0
ShowAnswer k files w answer =
    IfErr files (λ why. (answer ≡ Err (no_files why)) × (w.new ≡ w.old))
    × IfOk files (λ disk. ShownOf (given_disk k disk) w answer)

-- How `show` ends: what it answers, its fault, and the status.
abbrev pub ShowEnds : {D W E : Type 0} → Closable D → Result D FilesFault → Streams W E → Ending → Type 0
ShowEnds k files s ending = (answer : ProgramAnswer) × ShowAnswer k files s.output answer × EndsAs s.errors ending answer

-- How `run` ends where its files weren't opened: nothing is written or called, and why is a line on the stream of errors.
abbrev pub EndsUnopened : {D C W E : Type 0} → ProgramPassage D C W → Saying E → Ending → FilesFault → Type 0
EndsUnopened p e ending why = DoesNothing p.called p.wrote × EndsAs e ending (Err (no_files why))

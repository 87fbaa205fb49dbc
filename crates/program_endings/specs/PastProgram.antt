-- How the programs over what a worksheet was end: what they read and write, what they tell on which stream, and the exit status.
use Rattle.std.specs.Prelude.{◌≡◌, ℕ, true, List, Result, Err, IfOk, IfErr, IsErrOf, OnOk}
use Rattle.std.specs.Io.KnownBytes.{Appends}
use Rattle.disk_model.specs.Disk.{InModel, Looks, Rises, SameDisk, bytes_on}
use Rattle.journal.specs.declared.opening.OpenCause.TheVariants as opens
use Rattle.recovery.specs.declared.rescuing.Rescued.{Rescued}
use Rattle.offline_programs.specs.Saying.{IsSaid, Saying}
use Rattle.offline_programs.specs.declared.fault.RunFault.{RunFault}
use Rattle.offline_programs.specs.declared.fault.RunFault.TheVariants as fault
use Rattle.past.specs.Earlier.{FirstAreRead}
use Rattle.past.specs.Faults.{past_fault_text}
use Rattle.past.specs.History.{TellsList}
use Rattle.past.specs.declared.fault.PastFault.{PastFault}
use Rattle.past.specs.declared.fault.PastFault.TheVariants as past
use Rattle.program_endings.specs.Ending.{EndsAs, answer_of}
use Rattle.program_endings.specs.ExportProgram.{ExportAnswer, TellsExported, export_status}
use Rattle.program_endings.specs.Faults.{no_files}
use Rattle.program_endings.specs.Records.{GivenDisk, Streams, Writing, given_disk, text_after, text_before, view_given}
use Rattle.program_endings.specs.declared.ending.Ending.{Ending}
use Rattle.sheet_export.specs.Formats.{ReadsBack, TellsText, has_text, text_in}
use Rattle.sheet_export.specs.declared.formats.Format.{Format}
use Rattle.sheet_files.specs.Closing.{Closable}
use Rattle.sheet_files.specs.declared.files_fault.FilesFault.{FilesFault}
use Rattle.sheet_text.specs.Texts.{sheet_text}

-- What is read of the first n changes of a disk, which is closed where they can't be had.
abbrev pub DiskIsPast : {D : Type 0} → Closable D → ℕ → D → Result (Rescued D) PastFault → Type 0
DiskIsPast {D = D} k n disk answer = (after : D) × FirstAreRead k.view n disk after answer × IfErr answer (λ why. k.closed after)

-- What is read of files, or answered where they weren't opened.
abbrev pub FilesArePast : {D : Type 0} → Closable D → ℕ → Result D FilesFault → Result (Rescued D) PastFault → Type 0
FilesArePast k n files answer = IfErr files (λ why. answer ≡ Err (past.Run (no_files why)))
    × IfOk files (λ disk. DiskIsPast k n disk answer)

-- Why an earlier worksheet can't be had is a line that is said on the stream of errors.
abbrev pub EndsPast : {E : Type 0} → Saying E → Ending → PastFault → Type 0
EndsPast errors ending why = (ending.status ≡ 1) × IsSaid errors (past_fault_text why) ending.reported

-- How `show` ends of what was found, whose disk is closed: the worksheet was written, or the output has failed.
abbrev pub PastShown : {D W E : Type 0} → (D → Type 0) → Rescued D → Streams W E → Ending → Type 0
PastShown closed found s ending = closed found.disk × ((answer : Result Unit RunFault)
    × OnOk answer (Appends (text_before s.output) (text_after s.output) (sheet_text found.sheet.contents))
    × IfErr answer (λ why. why ≡ fault.Output) × EndsAs s.errors ending (answer_of answer))

-- How `export` ends of it.
abbrev pub PastExported : {D W E : Type 0} → (D → Type 0) → Rescued D → Format → List ℕ → Streams W E → Ending → Type 0
PastExported closed found format title s ending = closed found.disk × ((answer : ExportAnswer)
    × OnOk answer ((has_text format found.sheet.contents ≡ true) × Appends (text_before s.output) (text_after s.output) (text_in format title found.sheet.contents))
    × OnOk answer (ReadsBack format found.sheet.contents)
    × IfErr answer (TellsText format found.sheet.contents (s.output.new ≡ s.output.old))
    × (ending.status ≡ export_status answer) × TellsExported s.errors ending.reported answer)

-- What `history` answers on a disk, and what it has written then.
pub record HistoryOf {D W : Type 0} (g : GivenDisk D) (w : Writing W) (answer : Result Unit RunFault) : Type 0 where
  -- the disk, on which reads alone were made, as it was closed
  pub later : D
  pub closed : g.how.closed later
  pub listed : InModel (view_given g) (TellsList (bytes_on (view_given g)) (Appends (text_before w) (text_after w)) (w.new ≡ w.old) answer)
  pub same : SameDisk (view_given g) (g.how.view later)
  pub looks : InModel (view_given g) (Looks (view_given g).history (g.how.view later).history)
  -- that the disk failed is reported only where it did
  pub failed : IsErrOf answer (fault.Open opens.Disk) → Rises (view_given g).faults (g.how.view later).faults
  -- and where anything else is answered no call of it failed
  pub steady : (IsErrOf answer (fault.Open opens.Disk) → ⊥) → (g.how.view later).faults ≡ (view_given g).faults

-- What `history` answers on its files, or on why they weren't opened.
abbrev pub HistoryAnswer : {D W : Type 0} → Closable D → Result D FilesFault → Writing W → Result Unit RunFault → Type 0
HistoryAnswer k files w answer =
    IfErr files (λ why. (answer ≡ Err (no_files why)) × (w.new ≡ w.old))
    × IfOk files (λ disk. HistoryOf (given_disk k disk) w answer)

-- How `history` ends: what it answers, its fault, and the status.
abbrev pub HistoryEnds : {D W E : Type 0} → Closable D → Result D FilesFault → Streams W E → Ending → Type 0
HistoryEnds k files s ending = (answer : Result Unit RunFault) × HistoryAnswer k files s.output answer × EndsAs s.errors ending (answer_of answer)

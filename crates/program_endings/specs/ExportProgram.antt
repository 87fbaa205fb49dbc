-- How the program `export` ends: what it writes of its files, what it tells on which stream, and the exit status.
use Rattle.std.specs.Prelude.{◌≡◌, ℕ, Bool, true, false, List, Result, Ok, Err, IfOk, IfErr, IsErrOf, OnOk}
use Rattle.std.specs.Io.KnownBytes.{Appends}
use Rattle.disk_model.specs.Disk.{InModel, Looks, Rises, SameDisk, bytes_on}
use Rattle.journal.specs.declared.opening.OpenCause.TheVariants as opens
use Rattle.recovery.specs.Sheets.{IsSheetImage}
use Rattle.sheet_export.specs.Formats.{ReadsBack, TellsExport, export_fault_text, has_text, text_in}
use Rattle.sheet_export.specs.declared.fault.ExportFault.{ExportFault}
use Rattle.sheet_export.specs.declared.fault.ExportFault.TheVariants as exports
use Rattle.sheet_export.specs.declared.formats.Format.{Format}
use Rattle.offline_programs.specs.Saying.{IsSaid, Saying}
use Rattle.offline_programs.specs.declared.fault.RunFault.TheVariants as fault
use Rattle.worksheet.specs.Contents.{Contents}
use Rattle.program_endings.specs.Faults.{no_files}
use Rattle.program_endings.specs.Records.{GivenDisk, Streams, Writing, given_disk, text_after, text_before, view_given}
use Rattle.program_endings.specs.declared.ending.Ending.{Ending}
use Rattle.sheet_files.specs.Closing.{Closable}
use Rattle.sheet_files.specs.declared.files_fault.FilesFault.{FilesFault}

-- what `export` answers: nothing, or why the worksheet wasn't written
abbrev pub ExportAnswer : Type 0
ExportAnswer = Result Unit ExportFault

abbrev pub export_status : ExportAnswer → ℕ
export_status (Ok u) = 0
export_status (Err why) = 1

-- a fault is a line that is said on the stream of errors; nothing else stands there
abbrev pub TellsExported : {E : Type 0} → Saying E → Bool → ExportAnswer → Type 0
TellsExported errors reported (Ok u) = errors.new ≡ errors.old
TellsExported errors reported (Err why) = IsSaid errors (export_fault_text why) reported

-- What `export` answers on a disk, and what it has written then: its clauses.
pub record ExportedFrom {D W : Type 0} (g : GivenDisk D) (format : Format) (title : List ℕ) (w : Writing W) (answer : ExportAnswer) : Type 0 where
  -- the disk, on which reads alone were made, as it was closed
  pub later : D
  pub closed : g.how.closed later
  pub written : InModel (view_given g) ((sheet : Contents) → IsSheetImage sheet (bytes_on (view_given g))
      → OnOk answer ((has_text format sheet ≡ true) × Appends (text_before w) (text_after w) (text_in format title sheet)))
  pub reads : InModel (view_given g) ((sheet : Contents) → IsSheetImage sheet (bytes_on (view_given g)) → OnOk answer (ReadsBack format sheet))
  pub found : InModel (view_given g) (OnOk answer ((sheet : Contents) × IsSheetImage sheet (bytes_on (view_given g))))
  -- that there is no script is reported only of a worksheet that has none
  pub without : InModel (view_given g) (IsErrOf answer exports.NoScript → (sheet : Contents) × IsSheetImage sheet (bytes_on (view_given g)) × (has_text format sheet ≡ false))
  pub same : SameDisk (view_given g) (g.how.view later)
  pub looks : InModel (view_given g) (Looks (view_given g).history (g.how.view later).history)
  -- that the disk failed is reported only where it did
  pub failed : IsErrOf answer (exports.Run (fault.Open opens.Disk)) → Rises (view_given g).faults (g.how.view later).faults
  -- and where anything else is answered no call of it failed
  pub steady : (IsErrOf answer (exports.Run (fault.Open opens.Disk)) → ⊥) → (g.how.view later).faults ≡ (view_given g).faults
  pub fault : IfErr answer (TellsExport format (view_given g) (w.new ≡ w.old))

-- what `export` answers on its files, or on why they weren't opened
abbrev pub Exports : {D W : Type 0} → Closable D → Result D FilesFault → Format → List ℕ → Writing W → ExportAnswer → Type 0
Exports k files format title w answer =
    IfErr files (λ why. (answer ≡ Err (exports.Run (no_files why))) × (w.new ≡ w.old))
    × IfOk files (λ disk. ExportedFrom (given_disk k disk) format title w answer)

-- how `export` ends on its files, or on why they weren't opened
abbrev pub ExportEnds : {D W E : Type 0} → Closable D → Result D FilesFault → Format → List ℕ → Streams W E → Ending → Type 0
ExportEnds k files format title s ending = (answer : ExportAnswer) × Exports k files format title s.output answer
    × (ending.status ≡ export_status answer) × TellsExported s.errors ending.reported answer

-- A front that is taken, and records that are laid. No public clause speaks of it.
use Rattle.std.specs.Prelude.{◌≡◌, ◌⊎◌, ℕ, List, [], length, Some, Result, Ok, Err}
use Rattle.disk_model.specs.Disk.{ChangesArea, DiskState, Image, Reaches, Torn}
use Rattle.disk_model.specs.declared.disk.Area.TheVariants.{First}
use Rattle.journal.specs.Kept.{EitherStands}
use Rattle.journal.specs.declared.journal.OpenFault.{OpenFault}
use Rattle.journal.specs.declared.opening.OpenCause.{OpenCause}
use Rattle.journal.specs.declared.opening.OpenCause.TheVariants as opens
use Rattle.worksheet.specs.Contents.{SheetView}
use Rattle.worksheet.specs.declared.op.Op.{Op}
use Rattle.worksheet.specs.Ops.{sheet_of}
use Rattle.recovery.specs.Rescued.{IsRescued}
use Rattle.recovery.specs.declared.rescuing.Rescued.{Rescued}
use Rattle.journal.specs.declared.opening.CreateCause.{CreateCause}
use Rattle.journal.specs.declared.opening.CreateCause.TheVariants as creates
use Rattle.recovery.specs.declared.saving.SaveCause.{SaveCause}
use Rattle.recovery.specs.declared.saving.SaveCause.TheVariants as saves

-- what was found are the ops of an image: their worksheet, how many they are, and where it stops
abbrev pub FindsRescued : {D : Type 0} → Image → Rescued D → Type 0
FindsRescued i found = (ops : List Op) × IsRescued i ops found.damage
    × (found.sheet.contents ≡ sheet_of ops) × (found.kept ≡ length ops)

-- a creation that is cut off, or no payload, or these
abbrev pub IsBeingLaid : DiskState → List (List ℕ) → Image → Type 0
IsBeingLaid s payloads i = Reaches (ChangesArea First (Torn 0 11)) s i ⊎ EitherStands [] payloads i

-- where a payload is refused, what was taken before is kept, and its gate is named; any other cause is
-- a fault
abbrev pub Stops : {D : Type 0} → D → SheetView → ℕ → OpenCause → Result (Rescued D) (OpenFault D) → Type 0
Stops disk sheet kept (opens.Damaged gate) result = result ≡ Ok (record { disk = disk; sheet = sheet; kept = kept; damage = Some gate })
Stops disk sheet kept opens.NotASheet result = result ≡ Err (record { cause = opens.NotASheet; disk = disk })
Stops disk sheet kept opens.Disk result = result ≡ Err (record { cause = opens.Disk; disk = disk })
Stops disk sheet kept opens.OutOfMemory result = result ≡ Err (record { cause = opens.OutOfMemory; disk = disk })

-- why a creation was refused, as a cause of what is written
abbrev pub created_cause : CreateCause → SaveCause
created_cause creates.NotEmpty = saves.NotEmpty
created_cause creates.Disk = saves.Disk

-- a cause that the disk has
abbrev pub IsOfDisk : SaveCause → Type 0
IsOfDisk saves.NotEmpty = Unit {0}
IsOfDisk saves.Disk = Unit {0}
IsOfDisk saves.Full = ⊥
IsOfDisk saves.OutOfMemory = ⊥

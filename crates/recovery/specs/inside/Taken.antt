-- Payloads taken one after another. No public clause speaks of it.
use Rattle.std.specs.Prelude.{◌≡◌, ℕ, List, [], ◌∷◌, ◌++◌, None, Result, Ok, Err}
use Rattle.disk_model.specs.Disk.{DiskView}
use Rattle.worksheet.specs.declared.op.Op.{Op}
use Rattle.worksheet.specs.Contents.{Contents}
use Rattle.worksheet.specs.Ops.{sheet_of}
use Rattle.worksheet.specs.Checks.{first_refusal}
use Rattle.journal.specs.Kept.{JournalView, Keeps}
use Rattle.journal.specs.declared.journal.OpenFault.{OpenFault}
use Rattle.journal.specs.declared.walk.Payload.{Payload}
use Rattle.journal.specs.declared.opening.OpenCause.{OpenCause}
use Rattle.journal.specs.declared.opening.OpenCause.TheVariants as opens
use Rattle.recovery.specs.Code.{code_of, IsPayloadOf}
use Rattle.recovery.specs.Sheets.{codes_of, Makes, IsRefusedAt}

-- the payload is that of an op, and the sheet has it after these
pub record TakesOps (ops : List Op) (payload : List ℕ) (sheet : Contents) : Type 0 where
  pub next : Op
  pub is : payload ≡ code_of next
  pub makes : Makes (ops ++ next ∷ []) sheet

-- the payload is of no op that is allowed after these, and its gate is named
abbrev pub Refuses : List Op → Payload → OpenCause → Type 0
Refuses ops p (opens.Damaged gate) =
    (gate ≡ p.gate) × ((o : Op) → IsPayloadOf o p.bytes → first_refusal (sheet_of ops) o ≡ None → ⊥)
Refuses ops p opens.NotASheet = ⊥
Refuses ops p opens.Disk = ⊥
Refuses ops p opens.OutOfMemory = Unit {0}

-- the gate of the first payload that is refused, or a cause that isn't in the payloads
abbrev pub RefusesFrom : List (List ℕ) → OpenCause → Type 0
RefusesFrom payloads (opens.Damaged gate) = IsRefusedAt payloads gate
RefusesFrom payloads opens.NotASheet = ⊥
RefusesFrom payloads opens.Disk = Unit {0}
RefusesFrom payloads opens.OutOfMemory = Unit {0}

-- the disk that taking all payloads leaves
abbrev pub disk_taken : {D T : Type 0} → (D → DiskView) → Result (JournalView × T) (OpenFault D)
    → DiskView
disk_taken view (Ok found) = found.0.disk
disk_taken view (Err fault) = view fault.disk

-- these payloads are those of ops that make the sheet, and the journal keeps them
pub record TakesAll (payloads : List (List ℕ)) (journal : JournalView)
    (sheet : Contents) : Type 0 where
  pub ops : List Op
  pub are : payloads ≡ codes_of ops
  pub makes : Makes ops sheet
  pub keeps : Keeps journal.disk.history journal.end payloads

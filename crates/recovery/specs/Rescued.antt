-- What a rescue finds at the front of a disk (docs/trust/FORMAT.md, "Rescue").
use Rattle.std.specs.Prelude.{◌≡◌, ℕ, Bool, List, [], ◌∷◌, ◌++◌, Option, Some, None, Result, Ok, Err}
use Rattle.disk_model.specs.Disk.{DiskView, Image}
use Rattle.journal.specs.Area.{end_of}
use Rattle.journal.specs.Front.{ImageHasFront, damage_at}
use Rattle.journal.specs.declared.journal.OpenFault.{OpenFault}
use Rattle.worksheet.specs.declared.op.Op.{Op}
use Rattle.worksheet.specs.Ops.{sheet_of}
use Rattle.worksheet.specs.Checks.{first_refusal}
use Rattle.recovery.specs.Code.{IsPayloadOf}
use Rattle.recovery.specs.Sheets.{codes_of, Makes}
use Rattle.recovery.specs.declared.rescuing.Rescued.{Rescued}

-- Of the payloads that are left after these ops none is taken: none is left, or the first one is of no
-- op that is allowed there.
abbrev pub StopsAfter : List Op → List (List ℕ) → Type 0
StopsAfter ops [] = Unit {0}
StopsAfter ops (payload ∷ left) =
    (o : Op) → IsPayloadOf o payload → first_refusal (sheet_of ops) o ≡ None → ⊥

-- the offset of the gate where it stops, but for a closed one
abbrev pub stops_at : List (List ℕ) → Bool → ℕ → Option ℕ
stops_at [] damaged gate = damage_at damaged gate
stops_at (payload ∷ left) damaged gate = Some gate

-- The whole records of an image, up to the first gate that is closed or damaged, are those of these ops
-- and then of payloads that are left. Each op is allowed after those before it. It stops there: at the
-- gate of the first one that is left, else at the gate after all whole records.
pub record IsRescued (i : Image) (ops : List Op) (damage : Option ℕ) : Type 0 where
  pub left : List (List ℕ)
  pub damaged : Bool
  pub front : ImageHasFront i (codes_of ops ++ left) damaged
  pub makes : Makes ops (sheet_of ops)
  pub stops : StopsAfter ops left
  pub damage_is : damage ≡ stops_at left damaged (end_of (codes_of ops))

-- the disk that a rescue leaves
abbrev pub disk_rescued : {D : Type 0} → (D → DiskView) → Result (Rescued D) (OpenFault D) → DiskView
disk_rescued view (Ok found) = view found.disk
disk_rescued view (Err fault) = view fault.disk

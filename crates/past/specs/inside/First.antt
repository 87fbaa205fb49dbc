-- The payloads of a front that are taken first. No public clause speaks of it.
use Rattle.std.specs.Prelude.{◌≡◌, ◌⊎◌, ◌<◌, ℕ, List, Option, Some, None, length}
use Rattle.disk_model.specs.Disk.{Image}
use Rattle.journal.specs.declared.opening.OpenCause.TheVariants as opens
use Rattle.offline_programs.specs.declared.fault.RunFault.TheVariants as fault
use Rattle.past.specs.Earlier.{StandFirst}
use Rattle.past.specs.declared.fault.PastFault.{PastFault}
use Rattle.past.specs.declared.fault.PastFault.TheVariants as past
use Rattle.recovery.specs.declared.rescuing.Rescued.{Rescued}
use Rattle.recovery.specs.inside.Rescuing.{FindsRescued}
use Rattle.worksheet.specs.Ops.{sheet_of}
use Rattle.worksheet.specs.declared.op.Op.{Op}

-- so many were taken, whatever comes after them
abbrev pub FindsEnough : {D : Type 0} → Image → ℕ → Rescued D → Type 0
FindsEnough i n found = (found.kept ≡ n) × (found.damage ≡ None)
    × ((ops : List Op) × StandFirst i ops × (found.sheet.contents ≡ sheet_of ops) × (found.kept ≡ length ops))

-- or there are fewer, and then all were taken that a rescue keeps
abbrev pub FindsFirst : {D : Type 0} → Image → ℕ → Rescued D → Type 0
FindsFirst i n found = ((found.kept < n) × FindsRescued i found) ⊎ FindsEnough i n found

-- why there are fewer than n, where this damage is after them
abbrev pub lack : ℕ → Option ℕ → PastFault
lack n None = past.NoChange n
lack n (Some gate) = past.Run (fault.Open (opens.Damaged gate))

-- The room that the records of ops take. No public clause speaks of it.
use Rattle.std.specs.Prelude.{◌≡◌, ℕ, ◌+◌, ◌≤◌, List, length, Option, Some, None}
use Rattle.worksheet.specs.declared.op.Op.{Op}
use Rattle.journal.specs.Area.{records}
use Rattle.journal.specs.Limits.{longest_payload}
use Rattle.recovery.specs.Code.{code_of, HasCode}
use Rattle.recovery.specs.Sheets.{codes_of}

-- an op has a payload, and a record may have it
abbrev pub HasRecord : Op → Type 0
HasRecord o = HasCode o × (length (code_of o) ≤ longest_payload)

-- of so much room this is left after the records of these ops, or there is no room for them
abbrev pub Measures : List Op → ℕ → Option ℕ → Type 0
Measures ops left (Some rest) = left ≡ length (records (codes_of ops)) + rest
Measures ops left None = length (records (codes_of ops)) ≤ left → ⊥

use Rattle.std.proofs.Common.{◌≡◌, length}
use Rattle.worksheet.specs.inside.Entries.{shown}
use Rattle.worksheet.proofs.fields.FieldsIterator.next.Given as goal

-- what was taken has no field
abbrev pub invariant-loop-slot : goal.invariant-loop-slot
invariant-loop-slot l = shown l.self-inside.rest ≡ shown l.initial.self-inside.rest

abbrev pub decreases-loop-slot : goal.decreases-loop-slot
decreases-loop-slot l = length l.self-inside.rest

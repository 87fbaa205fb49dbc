-- When a Set is allowed.
use Rattle.std.proofs.Common.{◌≡◌, ℕ, List, refl, Bool, true, false, None}
use Rattle.worksheet.specs.declared.op.Op.TheVariants as op
use Rattle.worksheet.specs.Contents.{Contents}
use Rattle.worksheet.specs.Checks.{has_field, is_input, first_refusal}

pub set_allowed : (sheet : Contents) (id : ℕ) (input : List ℕ) → has_field sheet id ≡ true → is_input input ≡ true → first_refusal sheet (op.Set id input) ≡ None
set_allowed sheet id input there right = rw (there, right) refl

both : (b : Bool) → b ≡ false → b ≡ true → ⊥
both b wrong right = cc

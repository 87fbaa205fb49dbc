-- How long a name is.
use Rattle.std.proofs.Common.{◌≡◌, ◌≤◌, ℕ, List, length, arith, Bool, true, false, refl}
use Rattle.std.specs.Prelude.{◌&&◌, nat_le}
use Rattle.std.specs.List.{list_all}
use Rattle.std.proofs.lemmas.Bool.Decides.{nat_tests}
use Rattle.worksheet.specs.Limits.{longest_name}
use Rattle.worksheet.specs.Names.{is_name}
use Rattle.worksheet.specs.inside.Words.{is_name_byte}

pub short_name : (bytes : List ℕ) → is_name bytes ≡ true → length bytes ≤ longest_name
short_name bytes named = go (nat_le 1 (length bytes)) (nat_le (length bytes) longest_name) (list_all is_name_byte bytes) named (λ short. grind (arith, nat_tests))
  where
    go : (a b c : Bool) → (a && b && c) ≡ true → (b ≡ true → length bytes ≤ longest_name) → length bytes ≤ longest_name
    go true true c h k = k refl
    go true false c h k = cc
    go false b c h k = cc

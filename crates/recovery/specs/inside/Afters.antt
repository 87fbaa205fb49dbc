-- After which field each is made again. No public clause speaks of it.
use Rattle.std.specs.Prelude.{◌≡◌, ℕ, List, [], ◌∷◌, length, get_or, nat_lt, if◌then◌else◌}
use Rattle.std.specs.List.{AllByRecursion}
use Rattle.worksheet.specs.Checks.{numbers}
use Rattle.worksheet.specs.Contents.{Contents}
use Rattle.worksheet.specs.Rewrite.{smaller_before}

-- the last of these numbers that is below this one, and where none is, the one that was found before
abbrev pub last_below : ℕ → ℕ → List ℕ → ℕ
last_below found id [] = found
last_below found id (n ∷ ns) = if nat_lt n id then last_below n id ns else last_below found id ns

-- there is a place for each number that was given, and at that of a field's number stands the nearest smaller one in front of it, or 0
pub record AreAfters (afters : List ℕ) (sheet : Contents) : Type 0 where
  pub places : length afters ≡ sheet.next
  pub each : AllByRecursion (λ id. get_or afters id 0 ≡ smaller_before 0 id (numbers sheet.fields)) (numbers sheet.fields)

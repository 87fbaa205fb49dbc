-- What the line of progress looks like: the bytes that go to a terminal.
use Rattle.std.specs.Prelude.{◌≡◌, ◌⊎◌, ℕ, Bool, true, false, List, [], ◌∷◌, ◌++◌, Option, Some, None, codes, nat_eq, if◌then◌else◌}
use Rattle.std.specs.Fmt.{decimal}
use Rattle.std.specs.Io.KnownBytes.{Appends}
use Rattle.check_report.specs.Verdicts.{total}
use Rattle.sheet_check.specs.declared.progress.Sight.{Sight}
use Rattle.sheet_check.specs.declared.progress.Sight.TheVariants as sight

-- how many differ, where some do
abbrev pub differ_part : ℕ → List ℕ
differ_part n = if nat_eq n 0 then [] else (if nat_eq n 1 then codes ", 1 differs" else codes ", " ++ decimal n ++ codes " differ")

-- how many were left unanswered, where some were
abbrev pub unanswered_part : ℕ → List ℕ
unanswered_part n = if nat_eq n 0 then [] else codes ", " ++ decimal n ++ codes " unanswered"

-- what clears the rest of a terminal's line
abbrev pub clear_rest : List ℕ
clear_rest = 27 ∷ codes "[K"

-- What is written: back to the beginning of the line (13), there how far the check is, and the rest of the line is cleared; where nothing
-- is to be seen, all of it.
abbrev pub sight_text : Sight → List ℕ
sight_text (sight.Line counts all) =
    13 ∷ decimal (total counts) ++ codes " of " ++ decimal all ++ differ_part counts.differ ++ unanswered_part counts.unanswered ++ clear_rest
sight_text sight.Nothing = 13 ∷ clear_rest

-- What a line over a writer shows: where there is one, the bytes of the sight are said on it, and it is given up only where they didn't
-- go out.
abbrev pub LineShows : {W : Type 0} → (W → Option (List ℕ)) → (W → Option (List ℕ) → Bool → W → Type 0) → Option W → Sight → Option W → Type 0
LineShows contents tried None seen new = new ≡ None
LineShows {W = W} contents tried (Some a) seen new = (b : W) × ((tried a (Some (sight_text seen)) true b × (new ≡ Some b) × Appends (contents a) (contents b) (sight_text seen))
    ⊎ (tried a (Some (sight_text seen)) false b × (new ≡ None)))

-- What is left to be done after a group that is taken all or not at all.
use Rattle.std.specs.Prelude.{◌+◌, ℕ, List, [], ◌∷◌, Some, length}
use Rattle.session_engine.specs.declared.whole.Whole.{Whole}
use Rattle.session_engine.specs.declared.whole.Whole.TheVariants.{Taken, Refused}
use Rattle.driver.specs.Items.{Item, printing}

-- What commands of lines from this one on gave is printed, or the refusal for which none of them was taken.
abbrev pub printing_whole : ℕ → Whole → List Item
printing_whole first (Taken outcomes) = printing (Some first) outcomes.items []
printing_whole first (Refused before last) = printing (Some (first + length before.items)) (last ∷ []) []

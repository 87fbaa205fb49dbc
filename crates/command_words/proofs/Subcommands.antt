-- An option of a pair is known where both parts are: so what is said of a subcommand and of its rows
-- tells the matches of the subcommand.
use Rattle.std.proofs.Common.{◌≡◌, Option, Some, None, List, option_map, ap, ap₂, sym}
use Rattle.std.specs.Prelude.{unwrap_or}
use Rattle.std.proofs.lemmas.Option.{none-some}
use Rattle.clap.specs.Words.{Row, Text}

abbrev pub paired : {A : Type 0} (f : A → Text) (g : A → List Row) → A → Text × List Row
paired f g a = (f a, g a)

pub joined : {A : Type 0} (o : Option A) (f : A → Text) (g : A → List Row) (name : Text) (rows : List Row) → Some name ≡ option_map f o
    → Some rows ≡ option_map (λ (p : Text × List Row). p.1) (option_map (paired f g) o) → option_map (paired f g) o ≡ Some (name, rows)
joined None f g name rows e h = absurd (none-some name (sym e))
joined (Some a) f g name rows e h =
    let pair : Text → List Row → Option (Text × List Row) = λ x y. Some (x, y) in
    ap₂ pair (ap (λ o. unwrap_or o name) (sym e)) (ap (λ o. unwrap_or o rows) (sym h))

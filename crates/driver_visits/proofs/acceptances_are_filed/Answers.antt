use Rattle.std.proofs.Common.{◌≡◌, ℕ, List, [], Option, ap, subst, sym}
use Rattle.std.specs.Io.KnownBytes.{Appends}
use Rattle.std.proofs.KnownBytes.{Appends-nil}
use Rattle.sheet_check.specs.Accept.{acceptance}
use Rattle.sheet_check.specs.Check.{passage}
use Rattle.sheet_check.specs.Evaluated.{way}
use Rattle.driver_visits.proofs.Accepting.{acceptance_filed}
use Rattle.driver_visits.proofs.acceptances_are_filed.Goals as goal

pub returns : goal.returns
returns g c = λ limit chosen disk back from to a b answer model is.
    acceptance_filed (way g.S.Children.after g.S.Sources.clock g.S.Sources.wakes limit) chosen (acceptance g.W.Stamped.held disk back) (passage from to (g.W.Write.contents a) (g.W.Write.contents b)) ((b ≡ a) × (to ≡ from))
    (λ none. subst (λ (x : Option (List ℕ)). Appends (g.W.Write.contents a) x []) (sym (ap g.W.Write.contents none.0)) (Appends-nil (g.W.Write.contents a))) answer model is

-- The child at the place of its life.
use Rattle.std.proofs.Common.{◌≡◌, ◌∙◌, ℕ, List, Some, position, ap, sym, refl, subst}
use Rattle.std.proofs.Math.ListN.{get_or}
use Rattle.std.proofs.lemmas.List.Quantifiers.{position-Some}
use Rattle.std.proofs.lemmas.Option.{slice_get_read}
use Rattle.child_calls.specs.Handing.{runs_for}
use Rattle.child_calls.specs.Parts.{ByFirst}
use Rattle.child_calls.specs.declared.lives.RunningProcess.{RunningProcess}

pub at-place : {P : Type 0} (name : List ℕ) (life : ℕ) (view rs : List (RunningProcess P)) (i : ℕ) (r : RunningProcess P) (none : Type 0) (by : ℕ → RunningProcess P → Type 0)
    → view ≡ rs → position (runs_for name life) view ≡ Some i → r ≡ get_or rs i r → by i r → ByFirst (position (runs_for name life) rs) rs none by
at-place name life view rs i r none by same is found did =
    let at = ap (position (runs_for name life)) (sym same) ∙ is in
    let (fits, first, before) = position-Some (runs_for name life) rs i r at in
    subst (λ o. ByFirst o rs none by) (sym at) (r, slice_get_read rs _ i r refl fits found, did)

-- One append more in a run of them, by the clauses of `append` alone.
use Rattle.std.proofs.Common.{◌≡◌, ⊎_elim, ℕ, ◌+◌, ◌<◌, List, [], ◌∷◌, ◌++◌, length, take, refl, sym, ◌∙◌, ap, subst, arith, append_assoc, IsTrue}
use Rattle.std.proofs.lemmas.List.{append-nil}
use Rattle.disk_model.specs.Disk.{Image, History, InModel, LeavesOnly, SameDisk}
use Rattle.disk_model.specs.inside.Moments.{started, weakens, goes_on}
use Rattle.journal.specs.Kept.{BeforeOrAfter, JournalView, Keeps, ImageStandsFor}
use Rattle.journal_tests.specs.Batch.{Appended, SomeFirst}
use Rattle.journal.specs.inside.Standing.{keeps_images}

pub none_yet : (old : JournalView) (more : List (List ℕ)) → Appended old old more 0
none_yet old more = record {
  same = record { room = refl; keeps_model = refl; later = omega arith };
  kept = λ model payloads keeps. subst (λ (l : List (List ℕ)). Keeps old.disk.history old.end l) (sym (append-nil payloads)) keeps;
  moments = λ model payloads keeps. started (SomeFirst payloads more) old.disk.history (λ i image. (0, omega arith, subst (λ (l : List (List ℕ)). ImageStandsFor i l) (sym (append-nil payloads)) (keeps_images old.disk.history old.end payloads keeps i image)));
}

module _ (old mid : JournalView) (more : List (List ℕ)) (n : ℕ) (so_far : Appended old mid more n) (payload : List ℕ) (next : take (n + 1) more ≡ take n more ++ payload ∷ []) (lt : n < length more) where
  still_model : IsTrue old.disk.keeps_model → IsTrue mid.disk.keeps_model
  still_model model = subst IsTrue (sym so_far.same.keeps_model) model

  longer : (payloads : List (List ℕ)) → (payloads ++ take n more) ++ payload ∷ [] ≡ payloads ++ take (n + 1) more
  longer payloads = append_assoc payloads (take n more) (payload ∷ []) ∙ ap (λ (l : List (List ℕ)). payloads ++ l) (sym next)

  -- with the next payload or without it, the image stands for first ones
  first_ones : (s : History) (payloads : List (List ℕ)) (i : Image) → BeforeOrAfter s.now (payloads ++ take n more) payload i → SomeFirst payloads more i
  first_ones s payloads i either = ⊎_elim
      (λ before. (n, omega (arith, lt), before))
      (λ after. (n + 1, omega (arith, lt), subst (λ (l : List (List ℕ)). ImageStandsFor i l) (longer payloads) after)) either.0

  pub run_on : (new : History)
      → InModel mid.disk ((payloads : List (List ℕ)) → Keeps mid.disk.history mid.end payloads → LeavesOnly (BeforeOrAfter mid.disk.history.now payloads payload) mid.disk.history new)
      → InModel old.disk ((payloads : List (List ℕ)) → Keeps old.disk.history old.end payloads → LeavesOnly (SomeFirst payloads more) old.disk.history new)
  run_on new step model payloads keeps =
      let run = step (still_model model) (payloads ++ take n more) (so_far.kept model payloads keeps) in
      goes_on _ _ _ _ (so_far.moments model payloads keeps) (weakens _ (SomeFirst payloads more) _ _ (first_ones mid.disk.history payloads) run)

  pub appended_on : (new : JournalView) → SameDisk mid.disk new.disk
      → InModel mid.disk ((payloads : List (List ℕ)) → Keeps mid.disk.history mid.end payloads → Keeps new.disk.history new.end (payloads ++ payload ∷ []))
      → InModel mid.disk ((payloads : List (List ℕ)) → Keeps mid.disk.history mid.end payloads → LeavesOnly (BeforeOrAfter mid.disk.history.now payloads payload) mid.disk.history new.disk.history)
      → Appended old new more (n + 1)
  appended_on new same ok step = record {
    same = record { room = same.room ∙ so_far.same.room; keeps_model = same.keeps_model ∙ so_far.same.keeps_model; later = omega (arith, same.later, so_far.same.later) };
    kept = λ model payloads keeps. subst (λ (l : List (List ℕ)). Keeps new.disk.history new.end l) (longer payloads) (ok (still_model model) (payloads ++ take n more) (so_far.kept model payloads keeps));
    moments = run_on new.disk.history step;
  }

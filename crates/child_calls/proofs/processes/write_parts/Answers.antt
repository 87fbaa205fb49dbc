use Rattle.std.proofs.Common.{◌≡◌, ℕ, List, ◌++◌, rules, sym, ap, ◌∙◌, append_assoc, take, drop, take-append-drop}
use Rattle.std.proofs.KnownBytes.{Appends-trans}
use Rattle.child_calls.proofs.processes.write_parts.Goals as goal

-- the front that was written grows by the part in front of the rest
grows : (all done rest part later : List ℕ) (n : ℕ) → all ≡ done ++ rest → part ≡ take n rest → later ≡ drop n rest → all ≡ (done ++ part) ++ later
grows all done rest part later n split front back =
    split ∙ ap (λ l. done ++ l) (sym (take-append-drop n rest)) ∙ sym (append_assoc done (take n rest) (drop n rest))
    ∙ ap (λ l. (done ++ l) ++ drop n rest) (sym front) ∙ ap (λ l. (done ++ part) ++ l) (sym back)

pub loop-rest-preserved : goal.loop-rest-preserved
loop-rest-preserved g c =
    let (done, split, appended) = c.loop-rest.invariant in
    let at = c.split_at.ensures in
    (_, grows _ done _ _ _ _ split at.front at.back, Appends-trans _ _ _ _ _ appended (search rules))

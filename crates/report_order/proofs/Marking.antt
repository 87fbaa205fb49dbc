-- What was written stays written, and durable, while the log goes on.
use Rattle.std.proofs.Common.{◌≡◌, ◌<◌, ◌≤◌, ◌+◌, inl, inr, ℕ, suc, List, [], ◌∷◌, ◌++◌, refl, ap, sym, ◌∙◌, subst, append-nil, append_assoc, length, take, drop, get_or, take-append-drop, Option, Ok, Err}
use Rattle.std.proofs.lemmas.List.{take_all}
use Rattle.std.proofs.lemmas.Grind.{take_at_read}
use Rattle.std.specs.Io.KnownBytes.{Appends}
use Rattle.report_order.specs.Log.{LogHistory, LeavesAlways, all_durable}
use Rattle.report_order.specs.Order.{BeginsWith, added_to}
use Rattle.report_order.specs.Stamps.{ServesByText, StampedWith, WrittenInOrder, none, more, ok_text}
use Rattle.report_order.proofs.Keeping.{dropped, has_fewer, joined, of_settled, started, weakens}

pub written_later : (held_at : Option (List ℕ) → LogHistory → Type 0) (before : List ℕ) (old new : LogHistory) (from : Option (List ℕ)) (done : List ℕ) (to : Option (List ℕ))
    → WrittenInOrder held_at before old done from to → LeavesAlways (BeginsWith (before ++ done)) old new → WrittenInOrder held_at before new done from to
written_later held_at before old new from done to none goes = none
written_later held_at before old new from done to (more {done = d} {mid = mid} op written stamp text) goes =
    more op (written_later held_at before old new from d mid written (weakens (BeginsWith (before ++ (d ++ op ∷ []))) (BeginsWith (before ++ d)) old new (has_fewer before d op) goes))
    (record { at = stamp.at; held = stamp.held; kept = joined (BeginsWith (before ++ (d ++ op ∷ []))) stamp.at old new stamp.kept goes }) text

module _ (held_at : Option (List ℕ) → LogHistory → Type 0) (before xs : List ℕ) (i : ℕ) (from mid : Option (List ℕ)) (old new : LogHistory)
    (written : WrittenInOrder held_at before old (take i xs) from mid) (goes : LeavesAlways (BeginsWith (before ++ take i xs)) old new) where
  stays : WrittenInOrder held_at before new (take i xs) from mid
  stays = written_later held_at before old new from (take i xs) mid written goes

  pub broke : {E : Type 0} (e : E) → ServesByText held_at (added_to before xs) new from mid (Err e)
  broke e = record { done = take i xs; rest = drop i xs; split = sym (take-append-drop i xs); mid = mid; written = stays; end = inl refl }

  module _ (less : i < length xs) (now : new.now ≡ all_durable ((before ++ take i xs) ++ get_or xs i 0 ∷ [])) (held : held_at mid new) where
    is : new.now ≡ all_durable (before ++ (take i xs ++ get_or xs i 0 ∷ []))
    is = now ∙ ap all_durable (append_assoc before (take i xs) (get_or xs i 0 ∷ []))

    stamp : StampedWith held_at (before ++ (take i xs ++ get_or xs i 0 ∷ [])) new mid
    stamp = record {
      at = new;
      held = held;
      kept = started (BeginsWith (before ++ (take i xs ++ get_or xs i 0 ∷ []))) new (of_settled (before ++ (take i xs ++ get_or xs i 0 ∷ [])) new.now is);
    }

    pub unwritten : {E : Type 0} (to : Option (List ℕ)) (e : E) → ServesByText held_at (added_to before xs) new from to (Err e)
    unwritten to e = record {
      done = take i xs;
      rest = drop i xs;
      split = sym (take-append-drop i xs);
      mid = mid;
      written = stays;
      end = inr (record { op = get_or xs i 0; tail = drop (suc i) xs; split = dropped xs i less; stamped = stamp });
    }

    pub grown : (to : Option (List ℕ)) → Appends mid to ok_text → WrittenInOrder held_at before new (take (i + 1) xs) from to × (new.now ≡ all_durable (before ++ take (i + 1) xs))
    grown to text =
        let e = (take_at_read xs i 0 less).1 in (
          subst (λ (l : List ℕ). WrittenInOrder held_at before new l from to) (sym e) (more (get_or xs i 0) stays stamp text),
          is ∙ ap (λ (l : List ℕ). all_durable (before ++ l)) (sym e),
        )

pub whole : {E : Type 0} (held_at : Option (List ℕ) → LogHistory → Type 0) (before xs : List ℕ) (i : ℕ) (from to : Option (List ℕ)) (last : LogHistory) → length xs ≤ i
    → WrittenInOrder held_at before last (take i xs) from to → last.now ≡ all_durable (before ++ take i xs) → ServesByText {E = E} held_at (added_to before xs) last from to (Ok tt)
whole held_at before xs i from to last all written now = record {
  done = xs;
  rest = [];
  split = sym (append-nil xs);
  mid = to;
  written = subst (λ (l : List ℕ). WrittenInOrder held_at before last l from to) (take_all i xs all) written;
  end = (refl, refl, now ∙ ap (λ (l : List ℕ). all_durable (before ++ l)) (take_all i xs all));
}

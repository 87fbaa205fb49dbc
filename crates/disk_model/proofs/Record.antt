-- What one call more does to the history of a memory disk.
use Rattle.std.proofs.Common.{◌≡◌, ℕ, ◌≤◌, true, List, [], ◌∷◌, ◌++◌, length, refl, sym, ◌∙◌, ap, subst, arith, Vec, Result, Ok}
use Rattle.std.specs.Prelude.{nat_le}
use Rattle.std.specs.declared.alloc.Global.{Global}
use Rattle.std.proofs.lemmas.Bool.Decides.{nat_tests}
use Rattle.disk_model.specs.Disk.{AreaState, DiskState, History, Image, IsImage, AreaImage, Torn, Looks, Writes, Syncs, area_of, content_of, overwritten}
use Rattle.disk_model.specs.Calls.{Notes, after_write, after_sync, with_area, step, advanced, history_after, started_with}
use Rattle.disk_model.specs.inside.Replay.{stays_an_image, torn_by_write}
use Rattle.disk_model.specs.declared.disk.Area.{Area}
use Rattle.disk_model.specs.declared.disk.Area.TheVariants.{First, Second}
use Rattle.disk_model.specs.declared.memory.Call.{Call}
use Rattle.disk_model.specs.declared.memory.Call.TheVariants.{Write}

pub history-push : (calls : List Call) (h : History) (call : Call) → history_after h (calls ++ call ∷ []) ≡ advanced (history_after h calls) (step (history_after h calls).now call)
history-push [] h call = refl
history-push (c ∷ calls) h call = history-push calls (advanced h (step h.now c)) call

pub noted : (old new : List Call) (call : Call) → new ≡ old ++ call ∷ [] → Notes old new (λ s. step s call)
noted old new call is h = ap (history_after h) is ∙ history-push old h call

pub noted_write : (old new : List Call) (area : Area) (at : ℕ) (copy : Vec ℕ Global) (bytes : List ℕ) → new ≡ old ++ Write area at copy ∷ [] → copy.items ≡ bytes → Notes old new (with_area area (after_write at bytes))
noted_write old new area at copy bytes is same h = noted old new (Write area at copy) is h ∙ ap (λ (b : List ℕ). advanced (history_after h old) (with_area area (after_write at b) (history_after h old).now)) same

pub looked : (old new : History) → new ≡ advanced old old.now → Looks old new
looked old new is = subst (λ h. Looks old h) (sym is) (record {
  content = refl;
  moments = record { start = λ c image. image; more = old.now ∷ []; states = refl; each = ((λ c image. image), tt) };
})

torn_not : (at n : ℕ) (c : List ℕ) → Torn at n c c
torn_not at n c = record { before = refl; after = refl; no_shorter = omega arith; no_longer = omega arith }

abbrev touched : ℕ → List ℕ → AreaState → AreaState
touched at bytes a = record { content = overwritten a.content at bytes; synced = a.synced; writes = record { at = at; bytes = bytes } ∷ a.writes }

is_touched : (at : ℕ) (bytes : List ℕ) (a : AreaState) → at ≤ length a.content → after_write at bytes a ≡ touched at bytes a
is_touched at bytes a le = let inside : nat_le at (length a.content) ≡ true = grind (arith, nat_tests) in rw inside refl

module _ {T E : Type 0} (u : T) where
  abbrev good : Result T E
  good = Ok u

  pub wrote : (area : Area) (at : ℕ) (bytes : List ℕ) (old new : History) → at ≤ length (area_of area (content_of old)) → new ≡ advanced old (with_area area (after_write at bytes) old.now) → Writes area at bytes good old new
  wrote First at bytes old new le is =
      let s : DiskState = record { first = touched at bytes old.now.first; second = old.now.second } in
      let whole : new ≡ advanced old s = is ∙ ap (λ (a : AreaState). advanced old (record { first = a; second = old.now.second })) (is_touched at bytes old.now.first le) in
      subst (λ h. Writes First at bytes good old h) (sym whole) (record {
        written = (refl, refl);
        touched = (torn_by_write old.now.first.content at bytes le, refl);
        moments = record {
          start = λ c image. (c, image, (torn_not at (length bytes) c.first, refl));
          more = s ∷ [];
          states = refl;
          each = ((λ c image. (record { first = image.0.0; second = c.second }, (image.0.1, image.1), (image.0.2, refl))), tt);
        };
      })
  wrote Second at bytes old new le is =
      let s : DiskState = record { first = old.now.first; second = touched at bytes old.now.second } in
      let whole : new ≡ advanced old s = is ∙ ap (λ (a : AreaState). advanced old (record { first = old.now.first; second = a })) (is_touched at bytes old.now.second le) in
      subst (λ h. Writes Second at bytes good old h) (sym whole) (record {
        written = (refl, refl);
        touched = (refl, torn_by_write old.now.second.content at bytes le);
        moments = record {
          start = λ c image. (c, image, (refl, torn_not at (length bytes) c.second));
          more = s ∷ [];
          states = refl;
          each = ((λ c image. (record { first = c.first; second = image.1.0 }, (image.0, image.1.1), (refl, image.1.2))), tt);
        };
      })

  pub synced : (area : Area) (old new : History) → IsImage old.now (content_of old) → new ≡ advanced old (with_area area after_sync old.now) → Syncs area good old new
  synced First old new sound is = subst (λ h. Syncs First good old h) (sym is) (record {
    content = refl;
    moments = record {
      start = λ c image. image;
      more = record { first = after_sync old.now.first; second = old.now.second } ∷ [];
      states = refl;
      each = ((λ c image. (subst (λ (l : List ℕ). AreaImage old.now.first.synced old.now.first.writes l) (sym image.0) sound.0, image.1)), tt);
    };
    durable = λ c image. image.0;
  })
  synced Second old new sound is = subst (λ h. Syncs Second good old h) (sym is) (record {
    content = refl;
    moments = record {
      start = λ c image. image;
      more = record { first = old.now.first; second = after_sync old.now.second } ∷ [];
      states = refl;
      each = ((λ c image. (image.0, subst (λ (l : List ℕ). AreaImage old.now.second.synced old.now.second.writes l) (sym image.1) sound.1)), tt);
    };
    durable = λ c image. image.1;
  })

  module _ (i : Image) (old new : List Call) (area : Area) where
    pub synced_on : Notes old new (with_area area after_sync) → Syncs area good (history_after (started_with i) old) (history_after (started_with i) new)
    synced_on notes = synced area (history_after (started_with i) old) (history_after (started_with i) new) (stays_an_image i old) (notes (started_with i))

    pub wrote_on : (at : ℕ) (bytes : List ℕ) → at ≤ length (area_of area (content_of (history_after (started_with i) old))) → Notes old new (with_area area (after_write at bytes))
        → Writes area at bytes good (history_after (started_with i) old) (history_after (started_with i) new)
    wrote_on at bytes le notes = wrote area at bytes (history_after (started_with i) old) (history_after (started_with i) new) le (notes (started_with i))

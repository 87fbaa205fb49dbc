-- Lemmas for the layers above: how runs of calls go on. No clause speaks of them.
use Rattle.std.proofs.Common.{◌≡◌, ℕ, List, [], ◌∷◌, ◌++◌, refl, sym, ◌∙◌, ap, subst, arith, append_assoc, ◌+◌, ◌≤◌, max, length, length-append, length-drop, take, drop, Result, IsTrue}
use Rattle.std.proofs.lemmas.List.{length-take}
use Rattle.disk_model.specs.Disk.{overwritten, Image, DiskState, History, DiskView, Leaves, LeavesOnly, Called, Looks, Syncs, IsImage}
use Rattle.disk_model.specs.inside.Words.{Each, states_of}
use Rattle.disk_model.specs.declared.disk.Area.{Area}

pub Each-append : (Q : DiskState → Type 0) (xs ys : List DiskState) → Each Q xs → Each Q ys
    → Each Q (xs ++ ys)
Each-append Q [] ys all more = more
Each-append Q (x ∷ xs) ys all more = (all.0, Each-append Q xs ys all.1 more)

pub Each-map : (Q R : DiskState → Type 0) (xs : List DiskState) → ((s : DiskState) → Q s → R s)
    → Each Q xs → Each R xs
Each-map Q R [] f all = tt
Each-map Q R (x ∷ xs) f all = (f x all.0, Each-map Q R xs f all.1)

-- nothing has happened yet
pub started : (P : Image → Type 0) (h : History) → Leaves P h.now → LeavesOnly P h h
started P h here = record { start = here; more = []; states = refl; each = tt }

-- what the newest state leaves
pub at_end : (P : Image → Type 0) (old new : History) → LeavesOnly P old new → Leaves P new.now
at_end P old new run = newest run.more run.states run.each
  where
    newest : (more : List DiskState) → states_of new ≡ more ++ states_of old → Each (Leaves P) more
        → Leaves P new.now
    newest [] states each =
        let same : new.now ≡ old.now = cc in subst (λ s. Leaves P s) (sym same) run.start
    newest (s ∷ more) states each =
        let same : new.now ≡ s = cc in subst (λ s. Leaves P s) (sym same) each.0

pub weakens : (P Q : Image → Type 0) (old new : History) → ((c : Image) → P c → Q c)
    → LeavesOnly P old new → LeavesOnly Q old new
weakens P Q old new f run = record {
  start = λ c image. f c (run.start c image);
  more = run.more;
  states = run.states;
  each = Each-map (Leaves P) (Leaves Q) run.more
      (λ s leaves c image. f c (leaves c image)) run.each;
}

-- one run after another
pub goes_on : (P : Image → Type 0) (old mid new : History) → LeavesOnly P old mid
    → LeavesOnly P mid new → LeavesOnly P old new
goes_on P old mid new before after = record {
  start = before.start;
  more = after.more ++ before.more;
  states = after.states ∙ ap (λ (l : List DiskState). after.more ++ l) before.states
      ∙ sym (append_assoc after.more before.more (states_of old));
  each = Each-append (Leaves P) after.more before.more after.each before.each;
}

-- a call keeps the model
pub still : {T E : Type 0} (result : Result T E) (old new : DiskView) → Called result old new
    → IsTrue old.keeps_model → IsTrue new.keeps_model
still result old new call model = subst IsTrue (sym call.keeps_model) model

-- a call that leaves nothing new goes on with what it found
pub stays : (P : Image → Type 0) (old mid new : History) → LeavesOnly P old mid
    → LeavesOnly (IsImage mid.now) mid new → LeavesOnly P old new
stays P old mid new run call =
    goes_on P old mid new run (weakens (IsImage mid.now) P mid new (at_end P old mid run) call)

-- two calls that only look
pub looks_on : (old mid new : History) → Looks old mid → Looks mid new → Looks old new
looks_on old mid new first second = record {
  content = second.content ∙ first.content;
  moments = stays (IsImage old.now) old mid new first.moments second.moments;
}

-- a sync leaves what a look leaves
pub syncs_look : {T E : Type 0} (area : Area) (result : Result T E) (old new : History)
    → Syncs area result old new → Looks old new
syncs_look area result old new synced =
    record { content = synced.content; moments = synced.moments }

-- the length after a write that begins within the area
pub length-overwritten : (old : List ℕ) (at : ℕ) (bytes : List ℕ) → at ≤ length old
    → length (overwritten old at bytes) ≡ max (length old) (at + length bytes)
length-overwritten old at bytes le = omega (
  arith,
  length-append (take at old ++ bytes) (drop (at + length bytes) old),
  length-append (take at old) bytes,
  length-drop (at + length bytes) old,
  length-take at old,
)

-- What a crash leaves while a journal is created.
use Rattle.std.proofs.Common.{◌≡◌, ℕ, List, length, refl, subst, arith, Result}
use Rattle.disk_model.specs.Disk.{Image, History, IsImage, LeavesOnly, Looks, Reaches, ChangesArea, Torn, Writes, Syncs}
use Rattle.disk_model.specs.declared.disk.Area.TheVariants.{First}
use Rattle.disk_model.specs.inside.Moments.{goes_on, weakens, at_end, stays}

abbrev pub Step : Image → Image → Type 0
Step = ChangesArea First (Torn 0 11)

same_torn : (l : List ℕ) → Torn 0 11 l l
same_torn l = record { before = refl; after = refl; no_shorter = omega arith; no_longer = omega arith }

pub looked : (h0 h1 : History) → Looks h0 h1 → LeavesOnly (Reaches Step h0.now) h0 h1
looked h0 h1 looks = weakens (IsImage h0.now) (Reaches Step h0.now) h0 h1 (λ c image. (c, image, (same_torn c.first, refl))) looks.moments

pub wrote : {T E : Type 0} (r : Result T E) (bytes : List ℕ) (h0 h1 h2 : History) → length bytes ≡ 11 → Looks h0 h1 → Writes First 0 bytes r h1 h2 → LeavesOnly (Reaches Step h0.now) h0 h2
wrote r bytes h0 h1 h2 size looks w = goes_on (Reaches Step h0.now) h0 h1 h2 (looked h0 h1 looks)
    (weakens _ (Reaches Step h0.now) h1 h2 (λ c reaches.
    (reaches.0, at_end (IsImage h0.now) h0 h1 looks.moments reaches.0 reaches.1, (subst (λ (n : ℕ). Torn 0 n reaches.0.first c.first) size reaches.2.0, reaches.2.1))) w.moments)

pub flushed : {T E : Type 0} (r q : Result T E) (bytes : List ℕ) (h0 h1 h2 h3 : History) → length bytes ≡ 11 → Looks h0 h1 → Writes First 0 bytes r h1 h2 → Syncs First q h2 h3 → LeavesOnly (Reaches Step h0.now) h0 h3
flushed r q bytes h0 h1 h2 h3 size looks w s = stays (Reaches Step h0.now) h0 h2 h3 (wrote r bytes h0 h1 h2 size looks w) s.moments

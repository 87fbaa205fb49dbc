-- What one call more does to the record of a file in memory.
use Rattle.std.proofs.Common.{◌≡◌, ℕ, ◌+◌, ◌≤◌, ◌<◌, true, false, List, [], ◌∷◌, ◌++◌, length, refl, sym, ◌∙◌, ap, subst, arith, Ok, Err}
use Rattle.std.specs.Prelude.{nat_le, nat_lt}
use Rattle.std.proofs.lemmas.Bool.Decides.{nat_tests}
use Rattle.disk_model.specs.Disk.{AreaState, Torn, overwritten}
use Rattle.disk_model.specs.Calls.{after_sync, after_write, settled}
use Rattle.disk_model.specs.inside.Replay.{torn_by_write}
use Rattle.sheet_files.specs.inside.Replayed.{stays_an_image}
use Rattle.sheet_files.specs.DiskFile.{FileImage, FileSyncs, FileWrites}
use Rattle.sheet_files.specs.MemoryFile.{NotesCall, done, done_before, replayed}
use Rattle.sheet_files.specs.declared.memory_file.FileCall.{FileCall}

replayed-push : (t : ℕ) (calls : List FileCall) (a : AreaState) (call : FileCall)
    → replayed t (calls ++ call ∷ []) a ≡ done_before t call (replayed t calls a)
replayed-push t [] a call = refl
replayed-push t (c ∷ calls) a call = replayed-push t calls (done_before t c a) call

not_yet : (t : ℕ) (call : FileCall) (a : AreaState) → t ≤ call.moment → done_before t call a ≡ a
not_yet t call a le = let later : nat_lt call.moment t ≡ false = grind (arith, nat_tests) in rw later refl

is_made : (t : ℕ) (call : FileCall) (a : AreaState) → call.moment < t → done_before t call a ≡ done call.deed a
is_made t call a lt = let earlier : nat_lt call.moment t ≡ true = grind (arith, nat_tests) in rw earlier refl

pub noted : (calls : List FileCall) (call : FileCall) (moment : ℕ) → call.moment ≡ moment
    → NotesCall moment (done call.deed) calls (calls ++ call ∷ [])
noted calls call moment is start still =
    let a = settled start in
    let made : (t : ℕ) → moment + 1 ≤ t
    → replayed t (calls ++ call ∷ []) a ≡ done call.deed (replayed moment calls a)
    = λ t le. replayed-push t calls a call
    ∙ is_made t call (replayed t calls a) (omega (arith, is, le))
    ∙ ap (done call.deed) (still t (omega (arith, le))) in
    record {
      passes = record {
        keeps_model = refl;
        reads_only = refl;
        past = λ t le. replayed-push t calls a call
            ∙ not_yet t call (replayed t calls a) (omega (arith, is, le));
        still = λ t le. made t le ∙ sym (made (moment + 1) (omega arith));
      };
      after = made (moment + 1) (omega arith);
    }

torn_not : (at n : ℕ) (c : List ℕ) → Torn at n c c
torn_not at n c = record { before = refl; after = refl; no_shorter = omega arith; no_longer = omega arith }

module _ {T E : Type 0} where
  pub wrote : (value : T) (at : ℕ) (bytes : List ℕ) (a b : AreaState) → at ≤ length a.content
      → b ≡ after_write at bytes a → FileWrites {T = T} {E = E} at bytes (Ok value) a b
  wrote value at bytes a b le is =
      let inside : nat_le at (length a.content) ≡ true = grind (arith, nat_tests) in
      let touched : AreaState = record { content = overwritten a.content at bytes; synced = a.synced; writes = record { at = at; bytes = bytes } ∷ a.writes } in
      let whole : b ≡ touched = is ∙ rw inside refl in
      subst (λ s. FileWrites {T = T} {E = E} at bytes (Ok value) a s) (sym whole) (record {
        written = refl;
        touched = torn_by_write a.content at bytes le;
        images = λ c image. image;
      })

  pub wrote_nothing : (error : E) (at : ℕ) (bytes : List ℕ) (a b : AreaState) → b ≡ a
      → FileWrites {T = T} {E = E} at bytes (Err error) a b
  wrote_nothing error at bytes a b is =
      subst (λ s. FileWrites {T = T} {E = E} at bytes (Err error) a s) (sym is) (record {
        written = tt;
        touched = torn_not at (length bytes) a.content;
        images = λ c image. (c, image, torn_not at (length bytes) c);
      })

pub synced : (start : List ℕ) (calls : List FileCall) (moment : ℕ) (b : AreaState)
    → b ≡ after_sync (replayed moment calls (settled start))
    → FileSyncs {T = Unit {0}} false (Ok tt) (replayed moment calls (settled start)) b
synced start calls moment b is =
    let a = replayed moment calls (settled start) in
    subst (λ s. FileSyncs {T = Unit {0}} false (Ok tt) a s) (sym is) (record {
      content = refl;
      images = λ c image. subst (λ (l : List ℕ). FileImage a l) (sym image) (stays_an_image start calls moment);
      durable = λ c image. image;
    })

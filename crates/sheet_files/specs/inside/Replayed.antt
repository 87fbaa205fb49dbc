-- Each content of a file in memory is one of its images. No public clause speaks of it: `MemoryFile`
-- cites it where it meets the trait.
use Rattle.std.specs.Prelude.{◌≡◌, ℕ, Bool, true, false, nat_le, nat_lt, if◌then◌else◌, List, [], ◌∷◌, length, refl}
use Rattle.std.proofs.Common.{arith}
use Rattle.std.proofs.lemmas.Bool.Decides.{nat_tests}
use Rattle.disk_model.specs.Disk.{AreaState, AreaImage}
use Rattle.disk_model.specs.Calls.{after_write, settled}
use Rattle.disk_model.specs.inside.Replay.{torn_by_write}
use Rattle.sheet_files.specs.MemoryFile.{done, done_before, replayed}
use Rattle.sheet_files.specs.declared.memory_file.FileCall.{FileCall}
use Rattle.sheet_files.specs.declared.memory_file.Deed.{Deed}
use Rattle.sheet_files.specs.declared.memory_file.Deed.TheVariants.{Write, Sync}

abbrev Sound : AreaState → Type 0
Sound a = AreaImage a.synced a.writes a.content

write_sound : (a : AreaState) (at : ℕ) (bytes : List ℕ) → Sound a → Sound (after_write at bytes a)
write_sound a at bytes sound = go (nat_le at (length a.content)) refl
  where
    go : (b : Bool) → nat_le at (length a.content) ≡ b → Sound (after_write at bytes a)
    go true is = rw is (
      a.content,
      sound,
      torn_by_write a.content at bytes (grind (arith, nat_tests, is)),
    )
    go false is = rw is sound

done_sound : (deed : Deed) (a : AreaState) → Sound a → Sound (done deed a)
done_sound (Write at bytes) a sound = write_sound a at bytes.items sound
done_sound Sync a sound = refl

step_sound : (b : Bool) (deed : Deed) (a : AreaState) → Sound a
    → Sound (if b then done deed a else a)
step_sound true deed a sound = done_sound deed a sound
step_sound false deed a sound = sound

all_sound : (t : ℕ) (calls : List FileCall) (a : AreaState) → Sound a → Sound (replayed t calls a)
all_sound t [] a sound = sound
all_sound t (call ∷ calls) a sound =
    all_sound t calls (done_before t call a) (step_sound (nat_lt call.moment t) call.deed a sound)

pub stays_an_image : (start : List ℕ) (calls : List FileCall) (t : ℕ)
    → Sound (replayed t calls (settled start))
stays_an_image start calls t = all_sound t calls (settled start) refl

-- Each content of a memory disk is one of its images. No public clause speaks of it: `MemoryDisk`
-- cites it where it meets the trait.
use Rattle.std.specs.Prelude.{◌≡◌, ℕ, ◌+◌, ◌≤◌, Bool, true, false, nat_le, List, [], ◌∷◌, ◌++◌, length, take, drop, refl}
use Rattle.std.proofs.Common.{◌∙◌, ap, arith, append_assoc, length-append, length-take, length-drop}
use Rattle.std.proofs.lemmas.List.{take_at, drop_at}
use Rattle.std.proofs.lemmas.Bool.Decides.{nat_tests}
use Rattle.disk_model.specs.Disk.{AreaState, DiskState, History, Image, IsImage, AreaImage, Torn, overwritten, content_of}
use Rattle.disk_model.specs.Calls.{after_write, step, advanced, history_after, started_with}
use Rattle.disk_model.specs.declared.disk.Area.TheVariants.{First, Second}
use Rattle.disk_model.specs.declared.memory.Call.{Call}
use Rattle.disk_model.specs.declared.memory.Call.TheVariants.{Look, Write, Sync}

pub torn_by_write : (old : List ℕ) (at : ℕ) (bytes : List ℕ) → at ≤ length old
    → Torn at (length bytes) old (overwritten old at bytes)
torn_by_write old at bytes le =
    let size : length (take at old) ≡ at = omega (arith, length-take at old) in
    let split = append_assoc (take at old) bytes (drop (at + length bytes) old) in record {
      before = ap (λ (l : List ℕ). take at l) split
          ∙ take_at (take at old) (bytes ++ drop (at + length bytes) old) at size;
      after = drop_at (take at old ++ bytes) (drop (at + length bytes) old) (at + length bytes)
          (omega (arith, size, length-append (take at old) bytes));
      no_shorter = omega (
        arith,
        size,
        length-append (take at old ++ bytes) (drop (at + length bytes) old),
        length-append (take at old) bytes,
        length-drop (at + length bytes) old,
      );
      no_longer = omega (
        arith,
        size,
        length-append (take at old ++ bytes) (drop (at + length bytes) old),
        length-append (take at old) bytes,
        length-drop (at + length bytes) old,
      );
    }

abbrev Sound : AreaState → Type 0
Sound a = AreaImage a.synced a.writes a.content

write_sound : (a : AreaState) (at : ℕ) (bytes : List ℕ) → Sound a → Sound (after_write at bytes a)
write_sound a at bytes sound = go (nat_le at (length a.content)) refl
  where
    go : (b : Bool) → nat_le at (length a.content) ≡ b → Sound (after_write at bytes a)
    go true is = rw is (
      a.content,
      sound,
      torn_by_write a.content at bytes (grind (arith, nat_tests, is)),
    )
    go false is = rw is sound

step_sound : (s : DiskState) (call : Call) → Sound s.first → Sound s.second
    → Sound (step s call).first × Sound (step s call).second
step_sound s Look first second = (first, second)
step_sound s (Write First at bytes) first second =
    (write_sound s.first at bytes.items first, second)
step_sound s (Write Second at bytes) first second =
    (first, write_sound s.second at bytes.items second)
step_sound s (Sync First) first second = (refl, second)
step_sound s (Sync Second) first second = (first, refl)

all_sound : (h : History) (calls : List Call) → Sound h.now.first → Sound h.now.second
    → Sound (history_after h calls).now.first × Sound (history_after h calls).now.second
all_sound h [] first second = (first, second)
all_sound h (call ∷ calls) first second =
    let sound = step_sound h.now call first second in
    all_sound (advanced h (step h.now call)) calls sound.0 sound.1

pub stays_an_image : (i : Image) (calls : List Call)
    → IsImage (history_after (started_with i) calls).now
    (content_of (history_after (started_with i) calls))
stays_an_image i calls = all_sound (started_with i) calls refl refl

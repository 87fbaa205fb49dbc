-- The image that a choice names is one that a crash may leave.
use Rattle.std.proofs.Common.{◌≡◌, ℕ, ◌+◌, ◌≤◌, Bool, true, false, List, [], ◌∷◌, ◌++◌, length, take, drop, refl, sym, ◌∙◌, ap, ap₂, subst, arith, append_assoc, length-take, Result, Ok, Err}
use Rattle.std.specs.Prelude.{IfOk, nat_le}
use Rattle.std.proofs.lemmas.List.{take_all, take-append-drop, length-take-le}
use Rattle.std.proofs.lemmas.Bool.Decides.{nat_tests}
use Rattle.disk_model.specs.Disk.{AreaState, AreaImage, AtMoment, DiskState, DiskView, History, Image, IsImage, IsRestarted, Written, bytes_on, content_of}
use Rattle.disk_model.specs.inside.Words.{states_of}
use Rattle.disk_model.specs.Calls.{advanced, after_write, fresh, history_after, settled, started_with, step}
use Rattle.disk_model.specs.Laws.{FreshIsRestarted}
use Rattle.disk_model.specs.Crash.{Crashed, all_laid, image_named, image_of, laid}
use Rattle.disk_model.proofs.Laid.{length-laid, torn_by_fill, torn_cut}
use Rattle.disk_model.specs.inside.Moments.{length-overwritten}
use Rattle.disk_model.specs.declared.disk.Area.TheVariants.{First, Second}
use Rattle.disk_model.specs.declared.memory.Call.{Call}
use Rattle.disk_model.specs.declared.memory.Call.TheVariants.{Look, Write, Sync}
use Rattle.disk_model.specs.declared.crash.Fill.{Fill}

-- a crash leaves nothing else of a disk that was just made
pub fresh_is_restarted : FreshIsRestarted
fresh_is_restarted room i = record {
  keeps_model = refl;
  bytes = refl;
  durable = λ c image. ap₂ (λ (a b : List ℕ). record { first = a; second = b }) image.0 image.1;
}

-- what is drawn of an area is as long as its content, and is an image of it, whole and cut to the length that the last sync left
record Tied (fill : Fill) (a : AreaState) : Type 0 where
  size : length (all_laid fill a.synced a.writes) ≡ length a.content
  grown : AreaImage a.synced a.writes (all_laid fill a.synced a.writes)
  cut : AreaImage a.synced a.writes (take (length a.synced) (all_laid fill a.synced a.writes))
  synced : length a.synced ≤ length a.content

module _ (fill : Fill) where
  settled_tied : (bytes : List ℕ) → Tied fill (settled bytes)
  settled_tied bytes = record { size = refl; grown = refl; cut = take_all (length bytes) bytes (omega arith); synced = omega arith }

  write_tied : (a : AreaState) (at : ℕ) (bytes : List ℕ) → Tied fill a → Tied fill (after_write at bytes a)
  write_tied a at bytes tied = go (nat_le at (length a.content)) refl
    where
      go : (b : Bool) → nat_le at (length a.content) ≡ b → Tied fill (after_write at bytes a)
      go false is = rw is tied
      go true is =
          let inside : at ≤ length a.content = grind (arith, nat_tests, is) in
          let w : Written = record { at = at; bytes = bytes } in
          let image = all_laid fill a.synced a.writes in
          let within : at ≤ length image = omega (arith, inside, tied.size) in
          let torn = torn_by_fill fill w image within in
          rw is (record {
            size = length-laid fill w image within ∙ omega (arith, tied.size, length-overwritten a.content at bytes inside);
            grown = (image, tied.grown, torn);
            cut = (take (length a.synced) image, tied.cut, torn_cut at (length bytes) (length a.synced) image (laid fill w image) (omega (arith, tied.size, tied.synced)) torn);
            synced = omega (arith, tied.synced, length-overwritten a.content at bytes inside);
          })

  -- both areas
  record BothTied (s : DiskState) : Type 0 where
    first : Tied fill s.first
    second : Tied fill s.second

  step_tied : (s : DiskState) (call : Call) → BothTied s → BothTied (step s call)
  step_tied s Look tied = tied
  step_tied s (Write First at bytes) tied = record { first = write_tied s.first at bytes.items tied.first; second = tied.second }
  step_tied s (Write Second at bytes) tied = record { first = tied.first; second = write_tied s.second at bytes.items tied.second }
  step_tied s (Sync First) tied = record { first = settled_tied s.first.content; second = tied.second }
  step_tied s (Sync Second) tied = record { first = tied.first; second = settled_tied s.second.content }

  all_tied : (h : History) (calls : List Call) → BothTied h.now → BothTied (history_after h calls).now
  all_tied h [] tied = tied
  all_tied h (call ∷ calls) tied = all_tied (advanced h (step h.now call)) calls (step_tied h.now call tied)

  started_tied : (i : Image) (calls : List Call) → BothTied (history_after (started_with i) calls).now
  started_tied i calls = all_tied (started_with i) calls (record { first = settled_tied i.first; second = settled_tied i.second })

  module _ (grown : Bool) where
    area_shown : (a : AreaState) → Tied fill a → AreaImage a.synced a.writes (image_of fill grown a)
    area_shown a tied = go grown
      where
        go : (b : Bool) → AreaImage a.synced a.writes (image_of fill b a)
        go true = tied.grown
        go false = tied.cut

    length-image_of : (a : AreaState) → Tied fill a → length (image_of fill grown a) ≤ length a.content
    length-image_of a tied = go grown
      where
        go : (b : Bool) → length (image_of fill b a) ≤ length a.content
        go true = omega (arith, tied.size)
        go false = omega (arith, tied.synced, length-take (length a.synced) (all_laid fill a.synced a.writes))

-- an area never becomes shorter
write_grows : (a : AreaState) (at : ℕ) (bytes : List ℕ) → length a.content ≤ length (after_write at bytes a).content
write_grows a at bytes = go (nat_le at (length a.content)) refl
  where
    go : (b : Bool) → nat_le at (length a.content) ≡ b → length a.content ≤ length (after_write at bytes a).content
    go true is = rw is (omega (arith, length-overwritten a.content at bytes (grind (arith, nat_tests, is))))
    go false is = rw is (omega arith)

record Grows (s t : DiskState) : Type 0 where
  first : length s.first.content ≤ length t.first.content
  second : length s.second.content ≤ length t.second.content

step_grows : (s : DiskState) (call : Call) → Grows s (step s call)
step_grows s Look = record { first = omega arith; second = omega arith }
step_grows s (Write First at bytes) = record { first = write_grows s.first at bytes.items; second = omega arith }
step_grows s (Write Second at bytes) = record { first = omega arith; second = write_grows s.second at bytes.items }
step_grows s (Sync First) = record { first = omega arith; second = omega arith }
step_grows s (Sync Second) = record { first = omega arith; second = omega arith }

all_grow : (h : History) (calls : List Call) → Grows h.now (history_after h calls).now
all_grow h [] = record { first = omega arith; second = omega arith }
all_grow h (call ∷ calls) =
    let one = step_grows h.now call in
    let more = all_grow (advanced h (step h.now call)) calls in
    record { first = omega (arith, one.first, more.first); second = omega (arith, one.second, more.second) }

history-append : (h : History) (calls more : List Call) → history_after h (calls ++ more) ≡ history_after (history_after h calls) more
history-append h [] more = refl
history-append h (call ∷ calls) more = history-append (advanced h (step h.now call)) calls more

-- each call is a moment
pub length-past : (h : History) (calls : List Call) → length (history_after h calls).past ≡ length calls + length h.past
length-past h [] = omega arith
length-past h (call ∷ calls) = length-past (advanced h (step h.now call)) calls ∙ omega arith

states_after : (h : History) (calls : List Call) → (later : List DiskState) × (states_of (history_after h calls) ≡ later ++ states_of h)
states_after h [] = ([], refl)
states_after h (call ∷ calls) =
    let more = states_after (advanced h (step h.now call)) calls in
    (more.0 ++ step h.now call ∷ [], more.1 ∙ simp append_assoc)

module _ (i : Image) (calls : List Call) (moment : ℕ) (made : moment ≤ length calls) where
  abbrev then : History
  then = history_after (started_with i) (take moment calls)

  all_calls : history_after (started_with i) calls ≡ history_after then (drop moment calls)
  all_calls = ap (history_after (started_with i)) (sym (take-append-drop moment calls)) ∙ history-append (started_with i) (take moment calls) (drop moment calls)

  -- the state after the first calls is that of the moment
  pub at_moment : AtMoment moment (history_after (started_with i) calls) then.now
  at_moment =
      let later = states_after then (drop moment calls) in
      record {
        later = later.0;
        earlier = then.past;
        states = ap states_of all_calls ∙ later.1;
        moment_is = sym (length-past (started_with i) (take moment calls) ∙ omega (arith, length-take-le moment calls made));
      }

  module _ (fill : Fill) (grown : Bool) where
    tied : BothTied fill then.now
    tied = started_tied fill i (take moment calls)

    grows : Grows then.now (history_after (started_with i) calls).now
    grows = subst (λ (h : History). Grows then.now h.now) (sym all_calls) (all_grow then (drop moment calls))

    pub first_fits : length (image_of fill grown then.now.first) ≤ length (history_after (started_with i) calls).now.first.content
    first_fits = omega (arith, length-image_of fill grown then.now.first tied.first, grows.first)

    pub second_fits : length (image_of fill grown then.now.second) ≤ length (history_after (started_with i) calls).now.second.content
    second_fits = omega (arith, length-image_of fill grown then.now.second tied.second, grows.second)

    -- a disk with that image is what the crash leaves
    pub crashed : (old new : DiskView) → old.history ≡ history_after (started_with i) calls → new ≡ fresh old.room (image_named fill grown then.now)
        → Crashed moment fill grown old new
    crashed old new is named = record {
      state = then.now;
      at_moment = subst (λ (h : History). AtMoment moment h then.now) (sym is) at_moment;
      named = named;
      image = subst (λ (v : DiskView). IsImage then.now (content_of v.history)) (sym named) (area_shown fill grown then.now.first tied.first, area_shown fill grown then.now.second tied.second);
      restarted = subst (λ (v : DiskView). IsRestarted (bytes_on v) v) (sym named) (fresh_is_restarted old.room (image_named fill grown then.now));
    }

pub IfOk-weakens : {T E : Type 0} (P Q : T → Type 0) (result : Result T E) → ((x : T) → P x → Q x) → IfOk result P → IfOk result Q
IfOk-weakens P Q (Ok x) f holds = f x holds
IfOk-weakens P Q (Err e) f holds = tt

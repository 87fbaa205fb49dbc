-- A checkpoint, against the definitions.
use Rattle.std.proofs.Common.{◌≡◌, inl, inr, ⊎_elim, ℕ, ◌+◌, List, refl, ap, sym, ◌∙◌, subst, arith, Bool, true, false, Option, Some, None, Result, Ok, Err, IsTrue}
use Rattle.std.specs.Prelude.{nat_le, not, if◌then◌else◌, IfOk, IfErr}
use Rattle.std.proofs.lemmas.Bool.Decides.{nat_tests}
use Rattle.disk_model.specs.Disk.{DiskView, InModel, Leaves, LeavesOnly, SameDisk}
use Rattle.disk_model.specs.inside.Moments.{at_end, started}
use Rattle.worksheet.specs.declared.refusal.Refusal.{Refusal}
use Rattle.worksheet.specs.declared.refusal.Refusal.TheVariants as refusal
use Rattle.worksheet.specs.Contents.{Contents, SheetView}
use Rattle.worksheet.specs.Ops.{sheet_of}
use Rattle.worksheet.specs.Checks.{first_of}
use Rattle.journal.specs.Area.{end_of}
use Rattle.recovery.specs.Sheets.{IsSheetImage, StoreView}
use Rattle.recovery.specs.Checkpointed.{CheckpointAnswers, HasRoomAgain}
use Rattle.recovery.specs.declared.fault.CheckpointFault.TheVariants as checkpoint
use Rattle.host_events.specs.declared.command.Command.TheVariants as command
use Rattle.host_events.specs.declared.event.Event.{Event}
use Rattle.host_events.specs.declared.event.Event.TheVariants as event
use Rattle.host_events.specs.declared.outcome.HostFault.{HostFault}
use Rattle.host_events.specs.declared.outcome.HostFault.TheVariants as hosts
use Rattle.host_events.specs.declared.outcome.Outcome.{Outcome}
use Rattle.host_events.specs.declared.reply.Reply.TheVariants as reply
use Rattle.session_engine.specs.declared.table.Running.{Running}
use Rattle.session_engine.specs.World.{World, sheet_in}
use Rattle.session_engine.specs.inside.Words.{codes_again, fits_again, fits_again_in, renewed, renews}
use Rattle.session_engine.specs.Refused.{command_refusals}
use Rattle.session_engine.specs.Does.{CommandDoes, Does, MayDo, following, refused, replies, tells}
use Rattle.session_engine.specs.Host.{EngineStandsFor, HostView, IsHost, OnDisk, Took}
use Rattle.session_engine.specs.Faults.{CauseOf, Failed}
use Rattle.session_engine.proofs.Standing.{unchanged}
use Rattle.session_engine.proofs.Tables.{numbers_are}

-- Whether there is room.

pub fits_with_room : (room : ℕ) (sheet : Contents) → HasRoomAgain room sheet → fits_again_in room sheet ≡ true
fits_with_room room sheet has = grind (arith, nat_tests, has)

pub fits_without_room : (room : ℕ) (sheet : Contents) → (HasRoomAgain room sheet → ⊥) → fits_again_in room sheet ≡ false
fits_without_room room sheet none = go (nat_le (end_of (codes_again sheet) + 1) room) refl
  where
    go : (b : Bool) → nat_le (end_of (codes_again sheet) + 1) room ≡ b → b ≡ false
    go true e = absurd (none (grind (arith, nat_tests, e)))
    go false e = refl

-- What is done.

abbrev pub the_checkpoint : Event
the_checkpoint = event.Command command.Checkpoint

module _ (w : World) where
  may_renew : fits_again w ≡ true → MayDo w the_checkpoint (renews w)
  may_renew fits = subst (λ (b : Bool). CommandDoes w command.Checkpoint (if not b then Some refusal.JournalFull else None) (renews w)) (sym fits) (inl refl)

  may_want : fits_again w ≡ true → MayDo w the_checkpoint (tells w (reply.Refused refusal.OutOfMemory))
  may_want fits = subst (λ (b : Bool). CommandDoes w command.Checkpoint (if not b then Some refusal.JournalFull else None) (tells w (reply.Refused refusal.OutOfMemory))) (sym fits) (inr (refl, refl))

  may_refuse : fits_again w ≡ false → MayDo w the_checkpoint (tells w (reply.Refused refusal.JournalFull))
  may_refuse fits = subst (λ (b : Bool). CommandDoes w command.Checkpoint (if not b then Some refusal.JournalFull else None) (tells w (reply.Refused refusal.JournalFull))) (sym fits) refl

module _ (store new : StoreView) (rs : List Running) (begun : ℕ) (w : World) (h : EngineStandsFor store rs begun w) (same : SameDisk store.disk new.disk) (sheet : new.sheet ≡ store.sheet)
    (moments : InModel store.disk (store.closed ≡ false → LeavesOnly (IsSheetImage store.sheet.contents) store.disk.history new.disk.history)) where
  abbrev pub hosted : StoreView → HostView
  hosted s = record { store = s; lives = rs; begun = begun; closed = false }

  fits : HasRoomAgain store.disk.room store.sheet.contents → fits_again w ≡ true
  fits has = ap (λ (k : ℕ). fits_again_in k (sheet_in w)) (sym h.room) ∙ ap (λ (s : Contents). fits_again_in store.disk.room s) (sym h.contents) ∙ fits_with_room store.disk.room store.sheet.contents has

  unfit : (HasRoomAgain store.disk.room store.sheet.contents → ⊥) → fits_again w ≡ false
  unfit none = ap (λ (k : ℕ). fits_again_in k (sheet_in w)) (sym h.room) ∙ ap (λ (s : Contents). fits_again_in store.disk.room s) (sym h.contents) ∙ fits_without_room store.disk.room store.sheet.contents none

  -- each image is one of the worksheet
  images : InModel store.disk (LeavesOnly (IsSheetImage (sheet_in w)) store.disk.history new.disk.history)
  images model = subst (λ (s : Contents). LeavesOnly (IsSheetImage s) store.disk.history new.disk.history) h.contents (moments model h.still_open)

  stands : CheckpointAnswers store new (Ok tt) → EngineStandsFor new rs begun (renewed w)
  stands answers = record {
    still_open = answers.2;
    contents = ap (λ (s : SheetView). s.contents) sheet ∙ h.contents;
    allowed = h.allowed;
    images = λ model. at_end (IsSheetImage (sheet_in w)) store.disk.history new.disk.history (images (subst IsTrue same.keeps_model model));
    room = same.room ∙ h.room;
    end = answers.3 ∙ ap (λ (s : Contents). end_of (codes_again s)) h.contents;
    begun_is = h.begun_is;
    bound = h.bound;
    lives_are = h.lives_are;
    fields = h.fields;
    apart = h.apart;
  }

  pub checkpoint_done : CheckpointAnswers store new (Ok tt) → Took w the_checkpoint (hosted store) (hosted new) (replies reply.Done)
  checkpoint_done answers = record {
    did = renews w;
    may = may_renew w (fits answers.1);
    reported = refl;
    stands = record { works = refl; stands = stands answers };
    disk = images;
  }

  pub checkpoint_full : CheckpointAnswers store new (Err checkpoint.Full) → Took w the_checkpoint (hosted store) (hosted new) (refused refusal.JournalFull)
  checkpoint_full answers = record {
    did = tells w (reply.Refused refusal.JournalFull);
    may = may_refuse w (unfit answers.1);
    reported = refl;
    stands = record { works = refl; stands = unchanged store new rs begun w h answers.2 };
    disk = answers.2.disk;
  }

  pub checkpoint_wants : CheckpointAnswers store new (Err checkpoint.OutOfMemory) → Took w the_checkpoint (hosted store) (hosted new) (refused refusal.OutOfMemory)
  checkpoint_wants answers = record {
    did = tells w (reply.Refused refusal.OutOfMemory);
    may = may_want w (fits answers.1);
    reported = refl;
    stands = record { works = refl; stands = unchanged store new rs begun w h answers.2 };
    disk = answers.2.disk;
  }

  pub checkpoint_fails : CheckpointAnswers store new (Err checkpoint.Disk) → Failed w the_checkpoint (hosted store) (hosted new) hosts.Disk
  checkpoint_fails answers = record {
    contents = ap (λ (s : SheetView). s.contents) sheet ∙ h.contents;
    numbers = λ name. numbers_are rs w.lives h.lives_are name;
    cause = (answers.3, (record { does = renews w; may = may_renew w (fits answers.1); writes = refl }, images));
  }

-- At every moment.

kept_by : (w : World) (r : Option Refusal) (d : Does) (old new : DiskView) → CommandDoes w command.Checkpoint r d → InModel old (Leaves (IsSheetImage (sheet_in w)) old.history.now)
    → OnDisk w.ops d.again d.op old new → InModel old (LeavesOnly (IsSheetImage (sheet_in w)) old.history new.history)
kept_by w r d old new does holds disk = go r does
  where
    reported : (x : Refusal) → d ≡ tells w (reply.Refused x) → InModel old (LeavesOnly (IsSheetImage (sheet_in w)) old.history new.history)
    reported x is model =
        let still : new ≡ old = subst (λ (e : Does). OnDisk w.ops e.again e.op old new) is disk in
        subst (λ (v : DiskView). LeavesOnly (IsSheetImage (sheet_in w)) old.history v.history) (sym still) (started (IsSheetImage (sheet_in w)) old.history (holds model))

    go : (r : Option Refusal) → CommandDoes w command.Checkpoint r d → InModel old (LeavesOnly (IsSheetImage (sheet_in w)) old.history new.history)
    go (Some x) is = reported x is
    go None does = ⊎_elim (λ is. subst (λ (e : Does). OnDisk w.ops e.again e.op old new) is disk) (λ want. reported refusal.OutOfMemory want.1) does

-- the ops stay
same_ops : (w : World) (r : Option Refusal) (d : Does) → CommandDoes w command.Checkpoint r d → (following w d).ops ≡ w.ops
same_ops w (Some x) d is = ap (λ (e : Does). (following w e).ops) is
same_ops w None d does = ⊎_elim (λ is. ap (λ (e : Does). (following w e).ops) is) (λ want. ap (λ (e : Does). (following w e).ops) want.1) does

module _ (old new : HostView) (r : Result Outcome HostFault) (works : old.closed ≡ false → (w : World) × IsHost old w)
    (took : (w : World) → IsHost old w → IfOk r (Took w the_checkpoint old new)) (failed : (w : World) → IsHost old w → IfErr r (Failed w the_checkpoint old new)) (still : old.closed ≡ true → new ≡ old) where
  pub checkpoint_sheet : new.store.sheet.contents ≡ old.store.sheet.contents
  checkpoint_sheet = go old.closed refl
    where
      here : (w : World) → IsHost old w → (x : Result Outcome HostFault) → IfOk x (Took w the_checkpoint old new) → IfErr x (Failed w the_checkpoint old new) → new.store.sheet.contents ≡ old.store.sheet.contents
      here w h (Ok o) t f = t.stands.stands.contents ∙ ap sheet_of (same_ops w (first_of (command_refusals w command.Checkpoint)) t.did t.may) ∙ sym h.stands.contents
      here w h (Err e) t f = f.contents ∙ sym h.stands.contents

      go : (b : Bool) → old.closed ≡ b → new.store.sheet.contents ≡ old.store.sheet.contents
      go true e = ap (λ (h : HostView). h.store.sheet.contents) (still e)
      go false e = let h = works e in here h.0 h.1 r (took h.0 h.1) (failed h.0 h.1)

  pub checkpoint_moments : InModel old.store.disk (old.closed ≡ false → LeavesOnly (IsSheetImage old.store.sheet.contents) old.store.disk.history new.store.disk.history)
  checkpoint_moments model opened = let h = works opened in
      subst (λ (s : Contents). LeavesOnly (IsSheetImage s) old.store.disk.history new.store.disk.history) (sym h.1.stands.contents) (here h.0 h.1 r (took h.0 h.1) (failed h.0 h.1))
    where
      unmoved : (w : World) → IsHost old w → new.store.disk ≡ old.store.disk → LeavesOnly (IsSheetImage (sheet_in w)) old.store.disk.history new.store.disk.history
      unmoved w h same = subst (λ (d : DiskView). LeavesOnly (IsSheetImage (sheet_in w)) old.store.disk.history d.history) (sym same) (started (IsSheetImage (sheet_in w)) old.store.disk.history (h.stands.images model))

      by_fault : (w : World) → IsHost old w → (f : HostFault) → CauseOf w the_checkpoint old.store.disk new.store.disk f → LeavesOnly (IsSheetImage (sheet_in w)) old.store.disk.history new.store.disk.history
      by_fault w h hosts.Closed cause = absurd cause
      by_fault w h hosts.Disk cause =
          kept_by w (first_of (command_refusals w command.Checkpoint)) cause.1.0.does old.store.disk new.store.disk cause.1.0.may h.stands.images cause.1.1 model
      by_fault w h hosts.OutOfMemory cause = unmoved w h cause.0
      by_fault w h hosts.JournalFull cause = unmoved w h cause.0

      here : (w : World) → IsHost old w → (x : Result Outcome HostFault) → IfOk x (Took w the_checkpoint old new) → IfErr x (Failed w the_checkpoint old new)
          → LeavesOnly (IsSheetImage (sheet_in w)) old.store.disk.history new.store.disk.history
      here w h (Ok o) t f = kept_by w (first_of (command_refusals w command.Checkpoint)) t.did old.store.disk new.store.disk t.may h.stands.images t.disk model
      here w h (Err e) t f = by_fault w h e f.cause

-- Hosts that take their events one by one.
use Rattle.std.proofs.Common.{◌≡◌, ⊎_elim, ℕ, List, [], ◌∷◌, ◌++◌, refl, sym, subst, append-nil}
use Rattle.std.specs.Prelude.{Ok, Err}
use Rattle.disk_model.specs.Disk.{DiskView, Image, InModel, LeavesOnly}
use Rattle.disk_model.specs.inside.Moments.{started, weakens}
use Rattle.worksheet.specs.declared.op.Op.{Op}
use Rattle.worksheet.specs.Ops.{sheet_of}
use Rattle.worksheet.specs.Checks.{Allowed}
use Rattle.recovery.specs.Sheets.{IsSheetImage}
use Rattle.host_events.specs.declared.event.Event.{Event}
use Rattle.host_events.specs.declared.outcome.HostFault.{HostFault}
use Rattle.host_events.specs.declared.outcome.HostFault.TheVariants as hosts
use Rattle.host_events.specs.declared.outcome.Outcome.{Outcome}
use Rattle.session_engine.specs.World.{World, world_at_opening, sheet_in}
use Rattle.session_engine.specs.Does.{Does, MayDo, Runs, following}
use Rattle.session_engine.specs.Host.{EndsAt, HostView, IsHost, OnDisk, Took}
use Rattle.session_engine.specs.Faults.{CauseOf}
use Rattle.host_laws.specs.Turns.{Turned, CrashesAreTurns, StepsAreTurns}
use Rattle.session_engine.proofs.Playing.{EitherSheet, either_sheet, run_on}

module _ (room end : ℕ) (before : Image) (found : List Op) (allowed : Allowed found) (opens : IsSheetImage (sheet_of found) before) (ends : EndsAt before end) (events : List Event) (reported : List Outcome)
    (w : World) (run : Runs (world_at_opening found room end) events reported w) (e : Event) where
  abbrev first : World
  first = world_at_opening found room end

  -- a turn of the events with this one, which returned these outcomes
  abbrev IsTurn : List Outcome → Image → Type 0
  IsTurn outcomes i = (kept : List Op) × Turned room before found (record { events = events ++ e ∷ []; reported = outcomes }) i kept

  -- a crash that leaves the worksheet before this event
  without : (i : Image) → IsSheetImage (sheet_in w) i → IsTurn reported i
  without i image = (
    w.ops,
    record {
      allowed = allowed;
      opens = opens;
      end = end;
      ends = ends;
      taken = events;
      lost = e ∷ [];
      split = refl;
      withheld = [];
      leads = w;
      run = subst (λ (os : List Outcome). Runs first events os w) (sym (append-nil reported)) run;
      ops = refl;
      leaves = image;
    },
  )

  -- one that leaves the worksheet after it, where these outcomes were returned, and those were not
  after_it : (outcomes withheld : List Outcome) (v : World) (i : Image) → Runs first (events ++ e ∷ []) (outcomes ++ withheld) v → IsSheetImage (sheet_in v) i → IsTurn outcomes i
  after_it outcomes withheld v i run image = (
    v.ops,
    record {
      allowed = allowed;
      opens = opens;
      end = end;
      ends = ends;
      taken = events ++ e ∷ [];
      lost = [];
      split = sym (append-nil (events ++ e ∷ []));
      withheld = withheld;
      leads = v;
      run = run;
      ops = refl;
      leaves = image;
    },
  )

  -- at every moment of this step
  abbrev Crashes : HostView → HostView → Type 0
  Crashes old new = CrashesAreTurns room before found (record { events = events ++ e ∷ []; reported = reported }) old.store.disk new.store.disk

  module _ (old new : HostView) (stands : IsHost old w) where
    -- no call on the disk
    stays : new.store.disk ≡ old.store.disk → Crashes old new
    stays same = subst (λ (d : DiskView). InModel old.store.disk (LeavesOnly (IsTurn reported) old.store.disk.history d.history)) (sym same)
        (λ model. started (IsTurn reported) old.store.disk.history (λ i image. without i (stands.stands.images model i image)))

    -- the moments of what an event does
    does_so : (d : Does) → MayDo w e d → OnDisk w.ops d.again d.op old.store.disk new.store.disk → Crashes old new
    does_so d may disk model = weakens (EitherSheet w d) (IsTurn reported) old.store.disk.history new.store.disk.history (λ i image. ⊎_elim
        (without i)
        (λ after. after_it reported (d.reported ∷ []) (following w d) i (run_on first events reported w e d d.reported run may refl) after)
        image) (either_sheet w d old.store.disk new.store.disk stands.stands.images disk model)

    took : (o : Outcome) → Took w e old new o → Crashes old new
    took o t = does_so t.did t.may t.disk

    failed : (f : HostFault) → CauseOf w e old.store.disk new.store.disk f → Crashes old new
    failed hosts.Closed cause = absurd cause
    failed hosts.Disk cause = does_so cause.1.0.does cause.1.0.may cause.1.1
    failed hosts.OutOfMemory cause = stays cause.0
    failed hosts.JournalFull cause = stays cause.0

    acknowledged : (o : Outcome) → Took w e old new o → ((v : World) × Runs first (events ++ e ∷ []) (reported ++ o ∷ []) v × IsHost new v)
        × CrashesAreTurns room before found (record { events = events ++ e ∷ []; reported = reported ++ o ∷ [] }) new.store.disk new.store.disk
    acknowledged o t =
        let v = following w t.did in
        let on = run_on first events reported w e t.did o run t.may t.reported in (
          (v, on, t.stands),
          λ model. started (IsTurn (reported ++ o ∷ [])) new.store.disk.history (λ i image.
              after_it (reported ++ o ∷ []) [] v i (subst (λ (os : List Outcome). Runs first (events ++ e ∷ []) os v) (sym (append-nil (reported ++ o ∷ []))) on) (t.stands.stands.images model i image)),
        )

pub steps_are_turns : StepsAreTurns
steps_are_turns room end before found allowed opens ends events reported w run e old new (Ok o) stands took_it none = (
  took room end before found allowed opens ends events reported w run e old new stands o took_it,
  acknowledged room end before found allowed opens ends events reported w run e old new stands o took_it,
)
steps_are_turns room end before found allowed opens ends events reported w run e old new (Err f) stands none failed_it = (
  failed room end before found allowed opens ends events reported w run e old new stands f failed_it.cause,
  tt,
)

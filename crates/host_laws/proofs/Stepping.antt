-- A host, from its opening to a crash, step after step.
use Rattle.std.proofs.Common.{ℕ, List, [], ◌∷◌, ◌++◌, refl, sym, subst, append-nil}
use Rattle.std.specs.Prelude.{Result, Ok}
use Rattle.disk_model.specs.Disk.{Image}
use Rattle.disk_model.specs.inside.Moments.{started}
use Rattle.worksheet.specs.declared.op.Op.{Op}
use Rattle.host_events.specs.declared.event.Event.{Event}
use Rattle.host_events.specs.declared.outcome.HostFault.{HostFault}
use Rattle.host_events.specs.declared.outcome.Outcome.{Outcome}
use Rattle.session_engine.specs.World.{World, world_at_opening}
use Rattle.session_engine.specs.Does.{Runs}
use Rattle.session_engine.specs.Host.{HostView, IsHost}
use Rattle.host_laws.specs.Turns.{CrashesAreTurns, Turned}
use Rattle.host_laws.specs.OneHost.{JustOpened, StepMeets, TookOneByOne, StepsLeavePrefixes, no_event, one_more}
use Rattle.host_laws.proofs.Stepwise.{steps_are_turns}

module _ (room : ℕ) (before : Image) (found : List Op) (opened : HostView) (begun : JustOpened room before found opened) where
  abbrev first : World
  first = world_at_opening found room opened.store.end

  -- the host stands for the world that the events lead to
  stands_at : (events : List Event) (reported : List Outcome) (old : HostView) → TookOneByOne opened events reported old → (w : World) × Runs first events reported w × IsHost old w
  stands_at events reported old no_event = (first, refl, begun.stands)
  stands_at events reported old (one_more {mid = mid} {e = e} {o = o} {events = es} {reported = os} steps meets) =
      let at = stands_at es os mid steps in
      let met = meets at.0 at.2 in
      (steps_are_turns room opened.store.end before found begun.allowed begun.image begun.ends es os at.0 at.1 e mid old (Ok o) at.2 met.0 met.1).1.0

  -- a crash after the last of them
  pub after : (events : List Event) (reported : List Outcome) (old : HostView) (w : World) → Runs first events reported w → IsHost old w
      → CrashesAreTurns room before found (record { events = events; reported = reported }) old.store.disk old.store.disk
  after events reported old w run is model = started (λ (i : Image). (kept : List Op) × Turned room before found (record { events = events; reported = reported }) i kept) old.store.disk.history (λ i image. (
    w.ops,
    record {
      allowed = begun.allowed;
      opens = begun.image;
      end = opened.store.end;
      ends = begun.ends;
      taken = events;
      lost = [];
      split = sym (append-nil events);
      withheld = [];
      leads = w;
      run = subst (λ (os : List Outcome). Runs first events os w) (sym (append-nil reported)) run;
      ops = refl;
      leaves = is.stands.images model i image;
    },
  ))

  -- and one within one step more
  pub within : (events : List Event) (reported : List Outcome) (old : HostView) (w : World) → Runs first events reported w → IsHost old w
      → (e : Event) (answer : Result Outcome HostFault) (new : HostView) → StepMeets e old answer new
      → CrashesAreTurns room before found (record { events = events ++ e ∷ []; reported = reported }) old.store.disk new.store.disk
  within events reported old w run is e answer new meets =
      let met = meets w is in
      (steps_are_turns room opened.store.end before found begun.allowed begun.image begun.ends events reported w run e old new answer is met.0 met.1).0

pub steps_leave_prefixes : StepsLeavePrefixes
steps_leave_prefixes room before found opened begun events reported old steps =
    let at = stands_at room before found opened begun events reported old steps in (
      after room before found opened begun events reported old at.0 at.1 at.2,
      within room before found opened begun events reported old at.0 at.1 at.2,
    )

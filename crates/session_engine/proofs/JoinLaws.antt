-- Events that others join.
use Rattle.std.proofs.Common.{◌≡◌, ◌++◌, ◌∷◌, [], false, ℕ, List, Option, sym, ap, ◌∙◌, subst, append_assoc, append-nil}
use Rattle.disk_model.specs.Disk.{SameDisk}
use Rattle.host_events.specs.declared.event.Event.{Event}
use Rattle.host_events.specs.declared.outcome.Outcome.{Outcome}
use Rattle.host_events.specs.declared.outcome.HostFault.{HostFault}
use Rattle.host_events.specs.declared.outcome.HostFault.TheVariants as hosts
use Rattle.worksheet.specs.Contents.{SheetView}
use Rattle.session_engine.specs.declared.table.Running.{Running}
use Rattle.session_engine.specs.declared.joining.Joint.{Joint}
use Rattle.session_engine.specs.World.{World, sheet_in}
use Rattle.session_engine.specs.Does.{Runs}
use Rattle.session_engine.specs.Host.{HostView, IsHost, number_in}
use Rattle.session_engine.specs.Crash.{HasPlayed, StoppedAt}
use Rattle.session_engine.specs.Gathers.{FlushesTo, IsFlushed}
use Rattle.session_engine.specs.Groups.{StoppedGroup}
use Rattle.session_engine.specs.Joining.{Asking, JoinsAfter, ToBeTaken, TookJoined, with_more}
use Rattle.session_engine.specs.inside.Joins.{PlayedJoined, Stops}
use Rattle.session_engine.specs.inside.Until.{PlayedBy}
use Rattle.session_engine.proofs.Gathering.{flushes_after, took_group}

runs_both : (w : World) (es : List Event) (os : List Outcome) (v : World) (fs : List Event) (ps : List Outcome) (u : World) → Runs w es os v → Runs v fs ps u → Runs w (es ++ fs) (os ++ ps) u
runs_both w [] [] v fs ps u run more = subst (λ (x : World). Runs x fs ps u) run more
runs_both w [] (o ∷ os) v fs ps u run more = absurd run
runs_both w (e ∷ es) [] v fs ps u run more = absurd run
runs_both w (e ∷ es) (o ∷ os) v fs ps u run more = (run.0, run.1, runs_both run.0 es os v fs ps u run.2 more)

-- all of these events were taken
pub all_run : (w : World) (events : List Event) (reported : List Outcome) (host : HostView) (p : PlayedBy false w events reported host) → Runs w events reported p.played.leads
all_run w events reported host p = subst (λ (es : List Event). Runs w es reported p.played.leads)
    (sym (append-nil p.played.done) ∙ ap (λ (rest : List Event). p.played.done ++ rest) (sym p.ends) ∙ sym p.played.split) p.played.runs

module _ (w : World) (events : List Event) (reported : List Outcome) (v : World) (runs : Runs w events reported v) where
  -- events that were taken after others
  pub played_after : (more rest : List Event) (later : List Outcome) (host : HostView) → HasPlayed v more rest later host → HasPlayed w (events ++ more) rest (reported ++ later) host
  played_after more rest later host p = record {
    done = events ++ p.done;
    split = ap (λ (es : List Event). events ++ es) p.split ∙ sym (append_assoc events p.done rest);
    leads = p.leads;
    runs = runs_both w events reported v p.done later p.leads runs p.runs;
    stands = p.stands;
  }

  module _ (A : Asking) (first : Option ℕ) (more : List Event) (answered : A.answers v first more) where
    joined : JoinsAfter A w events reported first more
    joined = record { world = v; runs = runs; answered = answered }

    pub played_joined : (host : HostView) (joint : Joint) → joint.outcomes.items ≡ reported → joint.first ≡ first → PlayedBy false v more joint.later.items host → PlayedJoined A w events host joint
    played_joined host joint is at p = record {
      more = more;
      joined = subst (λ (os : List Outcome). JoinsAfter A w events os joint.first more) (sym is) (subst (λ (n : Option ℕ). JoinsAfter A w events reported n more) (sym at) joined);
      played = subst (λ (os : List Outcome). HasPlayed w (events ++ more) [] (os ++ joint.later.items) host) (sym is)
          (played_after more [] joint.later.items host (subst (λ (rest : List Event). HasPlayed v more rest joint.later.items host) p.ends p.played));
    }

    pub stops_later : (later : List Outcome) (fault : HostFault) (mid new : HostView) → StoppedAt v more mid new later fault
        → (all : List Event) × ToBeTaken A w events all × Stops w all new fault
    unfolding played_after
    stops_later later fault mid new s = (
      events ++ more,
      with_more reported first more joined,
      record {
        reported = reported ++ later;
        at = s.at;
        dropped = s.dropped;
        before = s.before;
        played = played_after more (s.at ∷ s.dropped) later s.before s.played;
        failed = s.failed;
        closed = s.closed;
      },
    )

pub stops_at : (w : World) (events : List Event) (reported : List Outcome) (fault : HostFault) (old new : HostView) → StoppedAt w events old new reported fault → Stops w events new fault
stops_at w events reported fault old new s = record { reported = reported; at = s.at; dropped = s.dropped; before = s.before; played = s.played; failed = s.failed; closed = s.closed }

-- A host before events, after them, and after what they owe was flushed.
module _ (w : World) (events : List Event) (old mid new : HostView) (real : mid.store.real ≡ old.store.real) (same : SameDisk old.store.disk mid.store.disk)
    (flushes : FlushesTo mid.store.sheet.contents mid.store new.store) where
  pub took_joined : (A : Asking) (joint : Joint) (p : PlayedJoined A w events mid joint) → IsHost new p.played.leads → IsFlushed new → TookJoined A w events old new joint
  took_joined A joint p stands flushed = record {
    more = p.more;
    joined = p.joined;
    took = took_group w (events ++ p.more) old mid new real same flushes (joint.outcomes.items ++ joint.later.items) p.played stands flushed;
  }

  pub stopped_joined : (fault : HostFault) (s : Stops w events mid fault) → ((fault ≡ hosts.Disk) → ⊥)
      → new.store.sheet ≡ mid.store.sheet → new.lives ≡ mid.lives → new.closed ≡ mid.closed → IsFlushed new → StoppedGroup w events old new s.reported fault
  stopped_joined fault s kept sheet lives closed flushed = record {
    at = s.at;
    dropped = s.dropped;
    before = s.before;
    after = mid;
    played = s.played;
    failed = s.failed;
    kept = kept;
    contents = ap (λ (v : SheetView). v.contents) sheet ∙ s.failed.contents;
    numbers = λ name. ap (λ (l : List Running). number_in l name) lives ∙ s.failed.numbers name;
    closed = closed ∙ s.closed;
    flushed = flushed;
    moments = flushes_after old.store mid.store new.store (sheet_in s.played.leads) real same s.failed.contents flushes;
  }

-- Groups are parts of turns.
use Rattle.std.proofs.Common.{◌≡◌, ◌∙◌, ⊎_elim, ℕ, suc, List, [], ◌∷◌, ◌++◌, length, refl, sym, ap, subst, append-nil, arith, length-append, IsTrue}
use Rattle.std.specs.Prelude.{Result, Ok, Err, IfOk}
use Rattle.std.specs.declared.alloc.Global.{Global}
use Rattle.std.specs.declared.vec.Vec.{Vec}
use Rattle.disk_model.specs.Disk.{DiskView, Image, InModel, Leaves, LeavesOnly, SameDisk}
use Rattle.disk_model.specs.inside.Moments.{at_end, started, weakens}
use Rattle.worksheet.specs.declared.op.Op.{Op}
use Rattle.worksheet.specs.Contents.{Contents}
use Rattle.worksheet.specs.Ops.{sheet_of}
use Rattle.worksheet.specs.Checks.{Allowed}
use Rattle.recovery.specs.Sheets.{IsSheetImage, IsSheetOf}
use Rattle.host_events.specs.declared.event.Event.{Event}
use Rattle.host_events.specs.declared.outcome.Outcome.{Outcome}
use Rattle.session_engine.specs.declared.play.GroupFault.{GroupFault}
use Rattle.session_engine.specs.declared.play.GroupFault.TheVariants as halt
use Rattle.session_engine.specs.declared.joining.Joint.{Joint}
use Rattle.session_engine.specs.declared.joining.JoinFault.{JoinFault}
use Rattle.session_engine.specs.declared.joining.JoinFault.TheVariants as joins
use Rattle.session_engine.specs.World.{World, world_at_opening, sheet_in}
use Rattle.session_engine.specs.Does.{Runs}
use Rattle.session_engine.specs.Crash.{HasPlayed}
use Rattle.session_engine.specs.Gathers.{FlushesTo}
use Rattle.session_engine.specs.Host.{EndsAt, HostView, IsHost}
use Rattle.host_laws.specs.Turns.{CrashesAreTurns, LeftByTurn}
use Rattle.session_engine.specs.declared.whole.Whole.{Whole}
use Rattle.session_engine.specs.declared.whole.Whole.TheVariants as whole
use Rattle.session_engine.specs.declared.whole.WholeFault.{WholeFault}
use Rattle.session_engine.specs.declared.whole.WholeFault.TheVariants as lacks
use Rattle.host_laws.specs.Together.{GroupMeets, GroupsAreTurns, GroupsUpToAreTurns, JoinedMeets, UpToMeets, WholeMeets, joint_returned, returned, whole_returned}
use Rattle.host_laws.proofs.Going.{plays_are_turns, runs_on}

pub runs_length : (w : World) (es : List Event) (os : List Outcome) (v : World) → Runs w es os v → length es ≡ length os
runs_length w [] [] v run = refl
runs_length w [] (o ∷ os) v run = absurd run
runs_length w (e ∷ es) [] v run = absurd run
runs_length w (e ∷ es) (o ∷ os) v run = ap suc (runs_length run.0 es os v run.2)

none_left : (done rest : List Event) → length rest ≡ 0 → rest ≡ []
none_left done [] none = refl
none_left done (e ∷ rest) none = absurd (omega (arith, none))

-- commands that were taken as a whole are a group
pub as_group : (edits : List Event) (outcomes : Vec Outcome Global) (old new : HostView) → WholeMeets edits old (Ok (whole.Taken outcomes)) new → GroupMeets edits old (Ok outcomes) new
as_group edits outcomes old new m = record {
  took = λ w is. (m.made w is).took;
  halts = λ w is. tt;
  before = m.before;
  after = m.after;
  same = m.same;
}

module _ (room end : ℕ) (before : Image) (found : List Op) (allowed : Allowed found) (opens : IsSheetImage (sheet_of found) before) (ends : EndsAt before end) (events : List Event) (reported : List Outcome)
    (w : World) (run : Runs (world_at_opening found room end) events reported w) (group : List Event) where
  -- a turn of the events with the group, which returned these outcomes
  abbrev IsTurn : List Outcome → Image → Type 0
  IsTurn outcomes i = LeftByTurn room before found (record { events = events ++ group; reported = outcomes }) i

  -- a crash that leaves the worksheet before the group
  without : (i : Image) → IsSheetImage (sheet_in w) i → IsTurn reported i
  without i image = (plays_are_turns room end before found allowed opens ends events reported w run group [] i).0
      (record { done = []; more = group; split = refl; outcomes = []; later = []; first = refl; leads = w; runs = refl; image = image })

  module _ (rest : List Event) (outcomes : List Outcome) (host : HostView) (played : HasPlayed w group rest outcomes host) where
    -- one that leaves the worksheet after those of its events that were taken, whose outcomes weren't returned
    with_some : (i : Image) → IsSheetImage (sheet_in played.leads) i → IsTurn reported i
    with_some i image = (plays_are_turns room end before found allowed opens ends events reported w run group outcomes i).0
        (record { done = played.done; more = rest; split = played.split; outcomes = outcomes; later = []; first = sym (append-nil outcomes); leads = played.leads; runs = played.runs; image = image })

    -- one that leaves it where they were returned
    returned_some : (i : Image) → IsSheetImage (sheet_in played.leads) i → IsTurn (reported ++ outcomes) i
    returned_some i image = (plays_are_turns room end before found allowed opens ends events reported w run group outcomes i).1 rest host played image

  module _ (old new : HostView) (stands : IsHost old w) (real : old.store.real ≡ old.store.disk) (after : new.store.real ≡ new.store.disk) where
    -- what is known of the disk as it stands, of the disk
    plain : (v : World) → FlushesTo (sheet_in v) old.store new.store → InModel old.store.disk (LeavesOnly (IsSheetOf (sheet_in w) (sheet_in v)) old.store.disk.history new.store.disk.history)
    plain v flushes = λ model.
        subst (λ (d : DiskView). LeavesOnly (IsSheetOf (sheet_in w) (sheet_in v)) old.store.disk.history d.history) after
        (subst (λ (d : DiskView). LeavesOnly (IsSheetOf (sheet_in w) (sheet_in v)) d.history new.store.real.history) real
        (flushes model (sheet_in w) (subst (λ (d : DiskView). Leaves (IsSheetImage (sheet_in w)) d.history.now) (sym real) (stands.stands.images model))))

    -- at every moment of the call
    during : (rest : List Event) (outcomes : List Outcome) (host : HostView) (played : HasPlayed w group rest outcomes host) → FlushesTo (sheet_in played.leads) old.store new.store
        → CrashesAreTurns room before found (record { events = events ++ group; reported = reported }) old.store.disk new.store.disk
    during rest outcomes host played flushes = λ model.
        weakens (IsSheetOf (sheet_in w) (sheet_in played.leads)) (IsTurn reported) old.store.disk.history new.store.disk.history
        (λ i either. ⊎_elim (without i) (with_some rest outcomes host played i) either)
        (plain played.leads flushes model)

    -- no event was taken
    unmoved : FlushesTo (sheet_in w) old.store new.store → CrashesAreTurns room before found (record { events = events ++ group; reported = reported }) old.store.disk new.store.disk
    unmoved flushes = λ model.
        weakens (IsSheetOf (sheet_in w) (sheet_in w)) (IsTurn reported) old.store.disk.history new.store.disk.history
        (λ i either. ⊎_elim (without i) (without i) either) (plain w flushes model)

    untouched : new.store.disk ≡ old.store.disk → CrashesAreTurns room before found (record { events = events ++ group; reported = reported }) old.store.disk new.store.disk
    untouched same = subst (λ (d : DiskView). InModel old.store.disk (LeavesOnly (IsTurn reported) old.store.disk.history d.history)) (sym same)
        (λ model. started (IsTurn reported) old.store.disk.history (λ i image. without i (stands.stands.images model i image)))

    stays : new ≡ old → CrashesAreTurns room before found (record { events = events ++ group; reported = reported }) old.store.disk new.store.disk
    stays same = untouched (ap (λ (h : HostView). h.store.disk) same)

    -- a crash after a call that returned no outcome
    silent : SameDisk old.store.disk new.store.disk → CrashesAreTurns room before found (record { events = events ++ group; reported = reported }) old.store.disk new.store.disk
        → CrashesAreTurns room before found (record { events = events ++ group; reported = reported ++ [] }) new.store.disk new.store.disk
    silent same crashes = λ model. started (IsTurn (reported ++ [])) new.store.disk.history
        (λ i image. subst (λ (os : List Outcome). IsTurn os i) (sym (append-nil reported))
        (at_end (IsTurn reported) old.store.disk.history new.store.disk.history (crashes (subst IsTrue same.keeps_model model)) i image))

    -- a crash after one that returned these outcomes
    spoken : (rest : List Event) (outcomes : List Outcome) (host : HostView) (played : HasPlayed w group rest outcomes host) → InModel new.store.disk (Leaves (IsSheetImage (sheet_in played.leads)) new.store.disk.history.now)
        → CrashesAreTurns room before found (record { events = events ++ group; reported = reported ++ outcomes }) new.store.disk new.store.disk
    spoken rest outcomes host played images = λ model. started (IsTurn (reported ++ outcomes)) new.store.disk.history
        (λ i image. returned_some rest outcomes host played i (images model i image))

    -- where all were taken, their outcomes lead on
    leads_on : (outcomes : List Outcome) (played : HasPlayed w group [] outcomes new) → Runs (world_at_opening found room end) (events ++ group) (reported ++ outcomes) played.leads
    leads_on outcomes played = subst (λ (es : List Event). Runs (world_at_opening found room end) (events ++ es) (reported ++ outcomes) played.leads) (sym (played.split ∙ append-nil played.done))
        (runs_on (world_at_opening found room end) events reported w played.done outcomes played.leads run played.runs)

    -- what the call left, by its answer
    abbrev Left : Result (Vec Outcome Global) GroupFault → Type 0
    Left answer = CrashesAreTurns room before found (record { events = events ++ group; reported = reported }) old.store.disk new.store.disk
        × CrashesAreTurns room before found (record { events = events ++ group; reported = reported ++ returned answer }) new.store.disk new.store.disk
        × IfOk answer (λ outcomes. (v : World) × Runs (world_at_opening found room end) (events ++ group) (reported ++ outcomes.items) v × IsHost new v)

    left : (answer : Result (Vec Outcome Global) GroupFault) → GroupMeets group old answer new → Left answer
    left (Ok outcomes) m =
        let took = m.took w stands in
        let p = took.played in
        (during [] outcomes.items new p took.moments, spoken [] outcomes.items new p p.stands.stands.images, (p.leads, leads_on outcomes.items p, p.stands))
    left (Err (halt.Stopped outcomes fault)) m =
        let s = m.halts w stands in
        let images = subst (λ (sheet : Contents). InModel new.store.disk (Leaves (IsSheetImage sheet) new.store.disk.history.now)) s.contents s.flushed.2 in
        (during (s.at ∷ s.dropped) outcomes.items s.before s.played s.moments, spoken (s.at ∷ s.dropped) outcomes.items s.before s.played images, tt)
    left (Err halt.Disk) m =
        let s = m.halts w stands in
        let crashes = during s.rest s.withheld s.before s.played s.moments in
        (crashes, silent m.same crashes, tt)
    left (Err (halt.NoRoom back)) m =
        let crashes = unmoved (m.halts w stands).moments in
        (crashes, silent m.same crashes, tt)
    left (Err (halt.Checkpoint back)) m =
        let crashes = stays (m.halts w stands).2 in
        (crashes, silent m.same crashes, tt)

    -- the same of commands that are taken as a whole
    abbrev LeftWhole : Result Whole WholeFault → Type 0
    LeftWhole answer = CrashesAreTurns room before found (record { events = events ++ group; reported = reported }) old.store.disk new.store.disk
        × CrashesAreTurns room before found (record { events = events ++ group; reported = reported ++ whole_returned answer }) new.store.disk new.store.disk

    left_whole : (answer : Result Whole WholeFault) → WholeMeets group old answer new → LeftWhole answer
    left_whole (Ok (whole.Taken outcomes)) m = let so = left (Ok outcomes) (as_group group outcomes old new m) in (so.0, so.1)
    left_whole (Ok (whole.Refused first last)) m =
        let crashes = untouched (m.made w stands).disk in
        (crashes, silent m.same crashes)
    left_whole (Err lacks.NoRoom) m =
        let crashes = untouched (m.halts w stands).1 in
        (crashes, silent m.same crashes)
    left_whole (Err lacks.Closed) m = absurd (m.halts w stands)
    left_whole (Err lacks.Disk) m =
        let s = (m.halts w stands).failed in
        let crashes = during s.rest s.withheld s.before s.played s.moments in
        (crashes, silent m.same crashes)

    -- the same of events that others joined
    abbrev LeftJoined : Result Joint JoinFault → Type 0
    LeftJoined answer = CrashesAreTurns room before found (record { events = events ++ group; reported = reported }) old.store.disk new.store.disk
        × CrashesAreTurns room before found (record { events = events ++ group; reported = reported ++ joint_returned answer }) new.store.disk new.store.disk

    left_joined : (answer : Result Joint JoinFault) → JoinedMeets w group old answer new → LeftJoined answer
    left_joined (Ok joint) m =
        let p = m.took.played in
        (during [] (joint.outcomes.items ++ joint.later.items) new p m.took.moments, spoken [] (joint.outcomes.items ++ joint.later.items) new p p.stands.stands.images)
    left_joined (Err joins.Checkpoint) m =
        let crashes = stays m.halts in
        (crashes, silent m.same crashes)
    left_joined (Err joins.NoRoom) m =
        let crashes = stays m.halts in
        (crashes, silent m.same crashes)
    left_joined (Err (joins.Stopped fault)) m =
        let s = m.halts.1 in
        let crashes = during (s.at ∷ s.dropped) m.halts.0 s.before s.played s.moments in
        (crashes, silent m.same crashes)
    left_joined (Err joins.Disk) m =
        let s = m.halts in
        let crashes = during s.rest s.withheld s.before s.played s.moments in
        (crashes, silent m.same crashes)

    -- the same of one that stops at a refusal
    abbrev LeftUpTo : Result (Vec Outcome Global) GroupFault → Type 0
    LeftUpTo answer = CrashesAreTurns room before found (record { events = events ++ group; reported = reported }) old.store.disk new.store.disk
        × CrashesAreTurns room before found (record { events = events ++ group; reported = reported ++ returned answer }) new.store.disk new.store.disk
        × IfOk answer (λ outcomes. length outcomes.items ≡ length group → (v : World) × Runs (world_at_opening found room end) (events ++ group) (reported ++ outcomes.items) v × IsHost new v)

    all_taken : (rest : List Event) (outcomes : List Outcome) (played : HasPlayed w group rest outcomes new) → length outcomes ≡ length group → HasPlayed w group [] outcomes new
    all_taken rest outcomes played many = record {
      done = played.done;
      split = played.split ∙ ap (λ (l : List Event). played.done ++ l) (none_left played.done rest (omega (arith, runs_length w played.done outcomes played.leads played.runs, many, ap length played.split, length-append played.done rest)));
      leads = played.leads;
      runs = played.runs;
      stands = played.stands;
    }

    left_up_to : (answer : Result (Vec Outcome Global) GroupFault) → UpToMeets group old answer new → LeftUpTo answer
    left_up_to (Ok outcomes) m =
        let took = m.took w stands in
        let p = took.played in (
          during took.rest outcomes.items new p took.moments,
          spoken took.rest outcomes.items new p p.stands.stands.images,
          λ many. let all = all_taken took.rest outcomes.items p many in (all.leads, leads_on outcomes.items all, all.stands),
        )
    left_up_to (Err (halt.Stopped outcomes fault)) m =
        let s = (m.halts w stands).0 in
        let images = subst (λ (sheet : Contents). InModel new.store.disk (Leaves (IsSheetImage sheet) new.store.disk.history.now)) s.contents s.flushed.2 in
        (during (s.at ∷ s.dropped) outcomes.items s.before s.played s.moments, spoken (s.at ∷ s.dropped) outcomes.items s.before s.played images, tt)
    left_up_to (Err halt.Disk) m =
        let s = (m.halts w stands).0 in
        let crashes = during s.rest s.withheld s.before s.played s.moments in
        (crashes, silent m.same crashes, tt)
    left_up_to (Err (halt.NoRoom back)) m =
        let crashes = unmoved (m.halts w stands).moments in
        (crashes, silent m.same crashes, tt)
    left_up_to (Err (halt.Checkpoint back)) m =
        let crashes = stays (m.halts w stands).2 in
        (crashes, silent m.same crashes, tt)

pub groups_up_to_are_turns : GroupsUpToAreTurns
groups_up_to_are_turns room end before found allowed opens ends events reported w run group old new answer stands m =
    left_up_to room end before found allowed opens ends events reported w run group old new stands m.before m.after answer m

pub groups_are_turns : GroupsAreTurns
groups_are_turns room end before found allowed opens ends events reported w run group old new answer stands m =
    left room end before found allowed opens ends events reported w run group old new stands m.before m.after answer m

pub wholes_are_turns : (room end : ℕ) (before : Image) (found : List Op) → Allowed found → IsSheetImage (sheet_of found) before → EndsAt before end → (events : List Event) (reported : List Outcome) (w : World)
    → Runs (world_at_opening found room end) events reported w → (edits : List Event) (old new : HostView) (answer : Result Whole WholeFault) → IsHost old w → WholeMeets edits old answer new
    → CrashesAreTurns room before found (record { events = events ++ edits; reported = reported }) old.store.disk new.store.disk
    × CrashesAreTurns room before found (record { events = events ++ edits; reported = reported ++ whole_returned answer }) new.store.disk new.store.disk
wholes_are_turns room end before found allowed opens ends events reported w run edits old new answer stands m =
    left_whole room end before found allowed opens ends events reported w run edits old new stands m.before m.after answer m

pub joined_are_turns : (room end : ℕ) (before : Image) (found : List Op) → Allowed found → IsSheetImage (sheet_of found) before → EndsAt before end → (events : List Event) (reported : List Outcome) (w : World)
    → Runs (world_at_opening found room end) events reported w → (all : List Event) (old new : HostView) (answer : Result Joint JoinFault) → IsHost old w → JoinedMeets w all old answer new
    → CrashesAreTurns room before found (record { events = events ++ all; reported = reported }) old.store.disk new.store.disk
    × CrashesAreTurns room before found (record { events = events ++ all; reported = reported ++ joint_returned answer }) new.store.disk new.store.disk
joined_are_turns room end before found allowed opens ends events reported w run all old new answer stands m =
    left_joined room end before found allowed opens ends events reported w run all old new stands m.before m.after answer m

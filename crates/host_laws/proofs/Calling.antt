-- A host, from its opening to a crash, call after call.
use Rattle.std.proofs.Common.{◌≡◌, ◌∙◌, ⊎_elim, ℕ, List, ◌++◌, length, take, refl, sym, ap, subst, append-nil}
use Rattle.std.proofs.lemmas.List.{take_at}
use Rattle.std.specs.Prelude.{Result, Ok, Err}
use Rattle.std.specs.declared.alloc.Global.{Global}
use Rattle.std.specs.declared.vec.Vec.{Vec}
use Rattle.disk_model.specs.Disk.{Image}
use Rattle.worksheet.specs.declared.op.Op.{Op}
use Rattle.host_events.specs.declared.event.Event.{Event}
use Rattle.host_events.specs.declared.outcome.Outcome.{Outcome}
use Rattle.session_engine.specs.declared.play.GroupFault.{GroupFault}
use Rattle.session_engine.specs.declared.play.GroupFault.TheVariants as halt
use Rattle.session_engine.specs.declared.whole.Whole.{Whole}
use Rattle.session_engine.specs.declared.whole.Whole.TheVariants as whole
use Rattle.session_engine.specs.declared.whole.WholeFault.{WholeFault}
use Rattle.session_engine.specs.declared.whole.WholeFault.TheVariants as lacks
use Rattle.session_engine.specs.declared.joining.Joint.{Joint}
use Rattle.session_engine.specs.declared.joining.JoinFault.{JoinFault}
use Rattle.session_engine.specs.World.{World, world_at_opening}
use Rattle.session_engine.specs.Does.{Runs}
use Rattle.session_engine.specs.Host.{HostView, IsHost}
use Rattle.host_laws.specs.Turns.{CrashesAreTurns}
use Rattle.host_laws.specs.OneHost.{JustOpened}
use Rattle.host_laws.specs.Together.{GroupMeets, JoinedMeets, UpToMeets, WholeMeets, joint_returned, returned, whole_returned}
use Rattle.host_laws.specs.Calls.{CallsLeavePrefixes, GaveBack, TookByCalls, TookNone, and_given_back, and_joined, and_group, and_group_up_to, and_none, and_step, and_whole, no_call}
use Rattle.host_laws.proofs.Going.{runs_on}
use Rattle.host_laws.proofs.Stepwise.{steps_are_turns}
use Rattle.host_laws.proofs.Stepping.{after, within}
use Rattle.host_laws.proofs.Groups.{as_group, groups_are_turns, groups_up_to_are_turns, joined_are_turns, runs_length, wholes_are_turns}

-- a host that gave a group back stands for the world that it stood for
stands_given_back : (w : World) (old new : HostView) (group : List Event) → IsHost old w → (answer : Result (Vec Outcome Global) GroupFault) → GroupMeets group old answer new → GaveBack answer → IsHost new w
stands_given_back w old new group is (Ok outcomes) m gave = absurd gave
stands_given_back w old new group is (Err (halt.Checkpoint back)) m gave = subst (λ (h : HostView). IsHost h w) (sym (m.halts w is).2) is
stands_given_back w old new group is (Err (halt.NoRoom back)) m gave = (m.halts w is).stands
stands_given_back w old new group is (Err (halt.Stopped outcomes fault)) m gave = absurd gave
stands_given_back w old new group is (Err halt.Disk) m gave = absurd gave

stands_given_back_up_to : (w : World) (old new : HostView) (group : List Event) → IsHost old w → (answer : Result (Vec Outcome Global) GroupFault) → UpToMeets group old answer new → GaveBack answer → IsHost new w
stands_given_back_up_to w old new group is (Ok outcomes) m gave = absurd gave
stands_given_back_up_to w old new group is (Err (halt.Checkpoint back)) m gave = subst (λ (h : HostView). IsHost h w) (sym (m.halts w is).2) is
stands_given_back_up_to w old new group is (Err (halt.NoRoom back)) m gave = (m.halts w is).stands
stands_given_back_up_to w old new group is (Err (halt.Stopped outcomes fault)) m gave = absurd gave
stands_given_back_up_to w old new group is (Err halt.Disk) m gave = absurd gave

-- and one that took none of the commands that it was given as a whole
stands_without : (w : World) (old new : HostView) (edits : List Event) → IsHost old w → (answer : Result Whole WholeFault) → WholeMeets edits old answer new → TookNone answer → IsHost new w
stands_without w old new edits is (Ok (whole.Taken outcomes)) m none = absurd none
stands_without w old new edits is (Ok (whole.Refused first last)) m none = (m.made w is).stands
stands_without w old new edits is (Err lacks.NoRoom) m none = (m.halts w is).0
stands_without w old new edits is (Err lacks.Closed) m none = absurd none
stands_without w old new edits is (Err lacks.Disk) m none = absurd none

module _ (room : ℕ) (before : Image) (found : List Op) (opened : HostView) (begun : JustOpened room before found opened) where
  -- the host stands for the world that the events lead to
  stands_after : (events : List Event) (reported : List Outcome) (old : HostView) → TookByCalls (world_at_opening found room opened.store.end) opened events reported old
      → (w : World) × Runs (world_at_opening found room opened.store.end) events reported w × IsHost old w
  stands_after events reported old no_call = (world_at_opening found room opened.store.end, refl, begun.stands)
  stands_after events reported old (and_step {mid = mid} {e = e} {o = o} {events = es} {reported = os} calls meets) =
      let at = stands_after es os mid calls in
      let met = meets at.0 at.2 in
      (steps_are_turns room opened.store.end before found begun.allowed begun.image begun.ends es os at.0 at.1 e mid old (Ok o) at.2 met.0 met.1).1.0
  stands_after events reported old (and_group {mid = mid} {group = group} {outcomes = outcomes} {events = es} {reported = os} calls meets) =
      let at = stands_after es os mid calls in
      (groups_are_turns room opened.store.end before found begun.allowed begun.image begun.ends es os at.0 at.1 group mid old (Ok outcomes) at.2 meets).2
  stands_after events reported old (and_group_up_to {mid = mid} {group = group} {outcomes = outcomes} {events = es} {reported = os} calls meets) =
      let at = stands_after es os mid calls in
      let played = (meets.took at.0 at.2).played in
      let taken : take (length outcomes.items) group ≡ played.done =
      ap (take (length outcomes.items)) played.split ∙ take_at played.done (meets.took at.0 at.2).rest (length outcomes.items) (runs_length at.0 played.done outcomes.items played.leads played.runs) in (
        played.leads,
        subst (λ (l : List Event). Runs (world_at_opening found room opened.store.end) (es ++ l) (os ++ outcomes.items) played.leads) (sym taken)
            (runs_on (world_at_opening found room opened.store.end) es os at.0 played.done outcomes.items played.leads at.1 played.runs),
        played.stands,
      )
  stands_after events reported old (and_given_back {mid = mid} {group = group} {answer = answer} calls meets gave) =
      let at = stands_after events reported mid calls in
      (at.0, at.1, ⊎_elim (λ m. stands_given_back at.0 mid old group at.2 answer m gave) (λ m. stands_given_back_up_to at.0 mid old group at.2 answer m gave) meets)
  stands_after events reported old (and_whole {mid = mid} {edits = edits} {outcomes = outcomes} {events = es} {reported = os} calls meets) =
      let at = stands_after es os mid calls in
      (groups_are_turns room opened.store.end before found begun.allowed begun.image begun.ends es os at.0 at.1 edits mid old (Ok outcomes) at.2 (as_group edits outcomes mid old meets)).2
  stands_after events reported old (and_none {mid = mid} {edits = edits} {answer = answer} calls meets none) =
      let at = stands_after events reported mid calls in
      (at.0, at.1, stands_without at.0 mid old edits at.2 answer meets none)
  stands_after events reported old (and_joined {w = w} {all = all} {outcomes = outcomes} {events = es} {reported = os} calls run is took) =
      let played = took.played in (
        played.leads,
        subst (λ (l : List Event). Runs (world_at_opening found room opened.store.end) (es ++ l) (os ++ outcomes) played.leads) (sym (played.split ∙ append-nil played.done))
            (runs_on (world_at_opening found room opened.store.end) es os w played.done outcomes played.leads run played.runs),
        played.stands,
      )

  -- a crash within events more that others join, and one after them
  within_joined : (events : List Event) (reported : List Outcome) (old : HostView) (w : World) → Runs (world_at_opening found room opened.store.end) events reported w → IsHost old w
      → (all : List Event) (answer : Result Joint JoinFault) (new : HostView) → JoinedMeets w all old answer new
      → CrashesAreTurns room before found (record { events = events ++ all; reported = reported }) old.store.disk new.store.disk
      × CrashesAreTurns room before found (record { events = events ++ all; reported = reported ++ joint_returned answer }) new.store.disk new.store.disk
  within_joined events reported old w run is all answer new meets =
      joined_are_turns room opened.store.end before found begun.allowed begun.image begun.ends events reported w run all old new answer is meets

  -- a crash within commands more that are taken as a whole, and one after them
  within_whole : (events : List Event) (reported : List Outcome) (old : HostView) (w : World) → Runs (world_at_opening found room opened.store.end) events reported w → IsHost old w
      → (edits : List Event) (answer : Result Whole WholeFault) (new : HostView) → WholeMeets edits old answer new
      → CrashesAreTurns room before found (record { events = events ++ edits; reported = reported }) old.store.disk new.store.disk
      × CrashesAreTurns room before found (record { events = events ++ edits; reported = reported ++ whole_returned answer }) new.store.disk new.store.disk
  within_whole events reported old w run is edits answer new meets =
      wholes_are_turns room opened.store.end before found begun.allowed begun.image begun.ends events reported w run edits old new answer is meets

  -- a crash within one group more that stops at a refusal, and one after it
  within_up_to : (events : List Event) (reported : List Outcome) (old : HostView) (w : World) → Runs (world_at_opening found room opened.store.end) events reported w → IsHost old w
      → (group : List Event) (answer : Result (Vec Outcome Global) GroupFault) (new : HostView) → UpToMeets group old answer new
      → CrashesAreTurns room before found (record { events = events ++ group; reported = reported }) old.store.disk new.store.disk
      × CrashesAreTurns room before found (record { events = events ++ group; reported = reported ++ returned answer }) new.store.disk new.store.disk
  within_up_to events reported old w run is group answer new meets =
      let left = groups_up_to_are_turns room opened.store.end before found begun.allowed begun.image begun.ends events reported w run group old new answer is meets in
      (left.0, left.1)

  -- a crash within one group more, and one after it
  within_group : (events : List Event) (reported : List Outcome) (old : HostView) (w : World) → Runs (world_at_opening found room opened.store.end) events reported w → IsHost old w
      → (group : List Event) (answer : Result (Vec Outcome Global) GroupFault) (new : HostView) → GroupMeets group old answer new
      → CrashesAreTurns room before found (record { events = events ++ group; reported = reported }) old.store.disk new.store.disk
      × CrashesAreTurns room before found (record { events = events ++ group; reported = reported ++ returned answer }) new.store.disk new.store.disk
  within_group events reported old w run is group answer new meets =
      let left = groups_are_turns room opened.store.end before found begun.allowed begun.image begun.ends events reported w run group old new answer is meets in
      (left.0, left.1)

pub calls_leave_prefixes : CallsLeavePrefixes
calls_leave_prefixes room before found opened begun events reported old calls =
    let at = stands_after room before found opened begun events reported old calls in (
      after room before found opened begun events reported old at.0 at.1 at.2,
      within room before found opened begun events reported old at.0 at.1 at.2,
      within_group room before found opened begun events reported old at.0 at.1 at.2,
      within_up_to room before found opened begun events reported old at.0 at.1 at.2,
      within_whole room before found opened begun events reported old at.0 at.1 at.2,
      within_joined room before found opened begun events reported old,
    )

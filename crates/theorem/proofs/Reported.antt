-- A story is one of turns.
use Rattle.std.proofs.Common.{◌≡◌, ◌≤◌, ⊎_elim, ℕ, List, [], ◌∷◌, ◌++◌, refl, ap, sym, ◌∙◌, subst, arith, length, length-append, IsTrue, Result, Ok, Err, IfOk}
use Rattle.std.specs.declared.alloc.Global.{Global}
use Rattle.std.specs.declared.vec.Vec.{Vec}
use Rattle.std.specs.List.{AllByRecursion}
use Rattle.disk_model.specs.Disk.{DiskState, DiskView, History, Image, IsImage, IsRestarted, Leaves, LeavesOnly, Looks, SameDisk, bytes_on}
use Rattle.worksheet.specs.declared.op.Op.{Op}
use Rattle.worksheet.specs.Ops.{sheet_of}
use Rattle.worksheet.specs.Checks.{Allowed}
use Rattle.recovery.specs.Sheets.{IsSheetImage}
use Rattle.host_events.specs.declared.event.Event.{Event}
use Rattle.host_events.specs.declared.outcome.HostFault.{HostFault}
use Rattle.host_events.specs.declared.outcome.Outcome.{Outcome}
use Rattle.session_engine.specs.declared.play.GroupFault.{GroupFault}
use Rattle.session_engine.specs.World.{world_at_opening}
use Rattle.session_engine.specs.Host.{HostView}
use Rattle.host_laws.specs.Turns.{EachTurned, HostTurn, HostsInTurn, LeftByTurn, LeftInTurn}
use Rattle.host_laws.specs.OneHost.{JustOpened, StepMeets}
use Rattle.host_laws.specs.Together.{joint_returned, returned, whole_returned}
use Rattle.host_laws.specs.Calls.{CallsLeavePrefixes, TookByCalls, and_step, no_call}
use Rattle.theorem.specs.Story.{CrashedSince, Doing, HostLived, LivedSince, OpenedFrom, Story, PlaysGroup, nothing, a_step, a_group, a_joined, a_whole, after_group, after_joined, after_whole, ends, opening, host}

-- the state at a moment since then is one of those of which something holds
found_in : (P : Image → Type 0) (first : DiskState) (past : List DiskState) → Leaves P first → (more later earlier : List DiskState) (s : DiskState)
    → more ++ first ∷ past ≡ later ++ s ∷ earlier → length past ≤ length earlier → AllByRecursion (Leaves P) more → Leaves P s
found_in P first past here [] [] earlier s same since each = let is : first ≡ s = cc in subst (λ (t : DiskState). Leaves P t) is here
found_in P first past here [] (l ∷ later) earlier s same since each =
    absurd (omega (arith, since, ap length same, length-append later (s ∷ earlier)))
found_in P first past here (m ∷ more) [] earlier s same since each = let is : m ≡ s = cc in subst (λ (t : DiskState). Leaves P t) is each.0
found_in P first past here (m ∷ more) (l ∷ later) earlier s same since each =
    let rest : more ++ first ∷ past ≡ later ++ s ∷ earlier = cc in found_in P first past here more later earlier s rest since each.1

-- a crash leaves what each moment leaves
pub at_crash : (P : Image → Type 0) (old new : History) (after : Image) → LeavesOnly P old new → CrashedSince old new after → P after
at_crash P old new after only c = found_in P old.now old.past only.start only.more c.at.later c.at.earlier c.state (sym only.states ∙ c.at.states)
    (subst (λ (n : ℕ). length old.past ≤ n) c.at.moment_is c.since) only.each after c.leaves

-- a disk keeps the model after calls on it
pub keeps_still : (old new : DiskView) → SameDisk old new → IsTrue old.keeps_model → IsTrue new.keeps_model
keeps_still old new same model = subst IsTrue (sym same.keeps_model) model

-- a host that lived was a turn
module _ (calls : CallsLeavePrefixes) (room : ℕ) (before : Image) (after : Image) (found : List Op) (opened : HostView) (begun : JustOpened room before found opened)
    (events : List Event) (reported : List Outcome) (old : HostView) (took : TookByCalls (world_at_opening found room opened.store.end) opened events reported old) (model : IsTrue old.store.disk.keeps_model) where
  -- a crash within a group, and one after it
  group_left : (group : List Event) (answer : Result (Vec Outcome Global) GroupFault) (new : HostView) → PlaysGroup group old answer new
      → LeavesOnly (LeftByTurn room before found (record { events = events ++ group; reported = reported })) old.store.disk.history new.store.disk.history
      × LeavesOnly (LeftByTurn room before found (record { events = events ++ group; reported = reported ++ returned answer })) new.store.disk.history new.store.disk.history
  group_left group answer new plays =
      ⊎_elim
      (λ meets. let left = (calls room before found opened begun events reported old took).2 group answer new meets in (left.0 model, left.1 (keeps_still old.store.disk new.store.disk meets.same model)))
      (λ meets. let left = (calls room before found opened begun events reported old took).3 group answer new meets in (left.0 model, left.1 (keeps_still old.store.disk new.store.disk meets.same model)))
      plays

  by_doing : (t : HostTurn) (from to : DiskView) → Doing (world_at_opening found room opened.store.end) old (record { events = events; reported = reported }) t from to → CrashedSince from.history to.history after → LeftByTurn room before found t after
  by_doing t from to nothing crashed =
      at_crash (LeftByTurn room before found (record { events = events; reported = reported })) old.store.disk.history old.store.disk.history after
      ((calls room before found opened begun events reported old took).0 model) crashed
  by_doing t from to (a_step e answer new meets) crashed =
      at_crash (LeftByTurn room before found (record { events = events ++ e ∷ []; reported = reported })) old.store.disk.history new.store.disk.history after
      ((calls room before found opened begun events reported old took).1 e answer new meets model) crashed
  by_doing t from to (a_group group answer new plays) crashed =
      at_crash (LeftByTurn room before found (record { events = events ++ group; reported = reported })) old.store.disk.history new.store.disk.history after
      (group_left group answer new plays).0 crashed
  by_doing t from to (after_group group answer new plays) crashed =
      at_crash (LeftByTurn room before found (record { events = events ++ group; reported = reported ++ returned answer })) new.store.disk.history new.store.disk.history after
      (group_left group answer new plays).1 crashed
  by_doing t from to (a_whole edits answer new meets) crashed =
      at_crash (LeftByTurn room before found (record { events = events ++ edits; reported = reported })) old.store.disk.history new.store.disk.history after
      (((calls room before found opened begun events reported old took).4 edits answer new meets).0 model) crashed
  by_doing t from to (after_whole edits answer new meets) crashed =
      at_crash (LeftByTurn room before found (record { events = events ++ edits; reported = reported ++ whole_returned answer })) new.store.disk.history new.store.disk.history after
      (((calls room before found opened begun events reported old took).4 edits answer new meets).1 (keeps_still old.store.disk new.store.disk meets.same model)) crashed
  by_doing t from to (a_joined w run is all answer new meets) crashed =
      at_crash (LeftByTurn room before found (record { events = events ++ all; reported = reported })) old.store.disk.history new.store.disk.history after
      (((calls room before found opened begun events reported old took).5 w run is all answer new meets).0 model) crashed
  by_doing t from to (after_joined w run is all answer new meets) crashed =
      at_crash (LeftByTurn room before found (record { events = events ++ all; reported = reported ++ joint_returned answer })) new.store.disk.history new.store.disk.history after
      (((calls room before found opened begun events reported old took).5 w run is all answer new meets).1 (keeps_still old.store.disk new.store.disk meets.same model)) crashed

pub host_turned : CallsLeavePrefixes → (room : ℕ) (before : Image) (turn : HostTurn) (after : Image) → (h : HostLived room before turn after)
    → LeftByTurn room before h.found turn after
host_turned calls room before turn after h =
    by_doing calls room before after h.found h.opened h.begun h.was.events h.was.reported h.old h.took h.keeps_model turn h.from h.to h.doing h.crashed

-- an opening leaves what was there
pub opening_leaves : (before : Image) (disk later : DiskView) (mid : Image) → IsRestarted before disk → Looks disk.history later.history
    → CrashedSince disk.history later.history mid → mid ≡ before
opening_leaves before disk later mid restarted looks crashed =
    restarted.durable mid (at_crash (IsImage disk.history.now) disk.history later.history mid looks.moments crashed)

pub each_turned : CallsLeavePrefixes → (room : ℕ) (before : Image) (turns : List HostTurn) (after : Image) → Story room before turns after → EachTurned room before turns after
each_turned calls room before turns after ends = refl
each_turned calls room before turns after (opening {mid = mid} disk later restarted looks crashed more) =
    subst (λ (i : Image). EachTurned room i turns after) (opening_leaves before disk later mid restarted looks crashed) (each_turned calls room mid turns after more)
each_turned calls room before turns after (host {mid = mid} {turn = turn} {turns = others} h more) =
    let left = host_turned calls room before turn mid h in (mid, (h.found, left.0, left.1), each_turned calls room mid others after more)

-- what the story left
pub left : HostsInTurn → CallsLeavePrefixes → (room : ℕ) (first : List Op) (before after : Image) (turns : List HostTurn)
    → Allowed first → IsSheetImage (sheet_of first) before → Story room before turns after → LeftInTurn room first before after turns
left hosts calls room first before after turns allowed image story =
    hosts room first before after turns allowed image (each_turned calls room before turns after story)

-- a host that was opened, was given these events by its calls, and then did this
pub lived : (room : ℕ) (before : Image) (found : List Op) (opened : HostView) → JustOpened room before found opened → (was : HostTurn) (old : HostView)
    → TookByCalls (world_at_opening found room opened.store.end) opened was.events was.reported old → IsTrue old.store.disk.keeps_model
    → (turn : HostTurn) (from to : DiskView) → Doing (world_at_opening found room opened.store.end) old was turn from to → (after : Image) → CrashedSince from.history to.history after → HostLived room before turn after
lived room before found opened begun was old took model turn from to doing after crashed = record {
  found = found;
  opened = opened;
  begun = begun;
  was = was;
  old = old;
  took = took;
  keeps_model = model;
  from = from;
  to = to;
  doing = doing;
  crashed = crashed;
}

-- one that took one event
pub by_step : (disk : DiskView) (opened new : HostView) → OpenedFrom disk opened → IsTrue disk.keeps_model → (e : Event) (answer : Result Outcome HostFault) → StepMeets e opened answer new
    → SameDisk opened.store.disk new.store.disk → IfOk answer (λ o. LivedSince disk (record { events = e ∷ []; reported = o ∷ [] }) new.store.disk new.store.disk)
by_step disk opened new begins model e (Ok o) meets same =
    lived disk.room (bytes_on disk) begins.found opened begins.begun (record { events = e ∷ []; reported = o ∷ [] }) new (and_step no_call meets)
    (keeps_still opened.store.disk new.store.disk same (keeps_still disk opened.store.disk begins.same model))
    (record { events = e ∷ []; reported = o ∷ [] }) new.store.disk new.store.disk nothing
by_step disk opened new begins model e (Err fault) meets same = tt

-- one that did this right after it was opened
pub at_first : (disk : DiskView) (opened : HostView) → (begins : OpenedFrom disk opened) → IsTrue disk.keeps_model → (turn : HostTurn) (from to : DiskView)
    → Doing (world_at_opening begins.found disk.room opened.store.end) opened (record { events = []; reported = [] }) turn from to → LivedSince disk turn from to
at_first disk opened begins model turn from to doing =
    lived disk.room (bytes_on disk) begins.found opened begins.begun (record { events = []; reported = [] }) opened no_call (keeps_still disk opened.store.disk begins.same model) turn from to doing

-- What a run leaves, after whatever invocations there were.
use Rattle.std.proofs.Common.{◌≡◌, ◌≤◌, ◌∙◌, List, [], ◌∷◌, ◌++◌, refl, sym, ap, subst, arith, length-append, IsTrue, ℕ}
use Rattle.std.specs.Prelude.{Result, length}
use Rattle.std.proofs.Math.Nat.{le_refl}
use Rattle.disk_model.specs.Disk.{AtMoment, DiskState, DiskView, History, Image, IsImage, Looks, bytes_on}
use Rattle.journal.specs.declared.journal.OpenFault.{OpenFault}
use Rattle.session_engine.specs.World.{world_at_opening}
use Rattle.session_engine.specs.Host.{HostView}
use Rattle.host_laws.specs.Turns.{HostTurn, HostsInTurn}
use Rattle.child_edge.specs.Moments.{outcomes_of}
use Rattle.offline_programs.specs.declared.fault.RunFault.{RunFault}
use Rattle.recovery.specs.Laws.{OneSheet}
use Rattle.worksheet.specs.Ops.{sheet_of}
use Rattle.disk_model.specs.declared.crash.Choice.{Choice}
use Rattle.disk_model.specs.declared.memory.MemoryDisk.{MemoryDisk}
use Rattle.theorem.specs.Story.{CrashedSince}
use Rattle.theorem.specs.Acts.{Act, OpensAfterActs, OpensSo, Uses, filing, no_use, turns_of}
use Rattle.theorem.proofs.Filing.{all_did}
use Rattle.theorem.specs.Programs.{Invocations, cut_off, cut_since, ended, no_more}
use Rattle.theorem.proofs.Reported.{opening_leaves}
use Rattle.driver.specs.Reports.{Report}
use Rattle.driver.specs.Items.{RunStep, ask, printed}
use Rattle.driver.specs.Place.{RunPlace, Rules}
use Rattle.driver.specs.Steps.{Run}
use Rattle.driver.specs.Laws.{trace}
use Rattle.driver.specs.Runs.{left_at_end}
use Rattle.driver.specs.Over.{Over, ProgramParts, RanOver, first_place, not_opened, ran_over}
use Rattle.driver_visits.specs.declared.crashed.AfterCrash.{AfterCrash}
use Rattle.driver_visits.specs.declared.crashed.AfterCrash.TheVariants as crashed_to
use Rattle.driver_visits.specs.Earlier.{CrashesLeave, EarlierUses, LeftWith}
use Rattle.driver_visits.specs.Runs.{CrashOpens, LeavesPrefix, LeavesPrinted, OpenedAgain, OpeningLeaves, OpensAfterCrash, OpensCrashed, RunsThenCrashes, RunsThenOpens, not_begun, ran, run_reporting, run_act, unknown_reports, unopened, was_cut, with_disk}
use Rattle.driver_visits.specs.Visits.{turn_of}
use Rattle.driver_visits.specs.Tried.{TriedLast}
use Rattle.driver_visits.proofs.Parts.{Parted, parted_run}
use Rattle.driver_visits.proofs.Printing.{printed_of}
use Rattle.driver_visits.proofs.Visiting.{durable_at, visit_by}

-- uses after uses
pub used_on : (room : ℕ) (before mid after : Image) (acts more : List Act) → Uses room before acts mid → Uses room mid more after → Uses room before (acts ++ more) after
used_on room before mid after acts more no_use then = then
used_on room before mid after acts more (turns_of {mid = between} {turns = turns} {acts = others} invocations rest) then =
    turns_of {mid = between} {turns = turns} {acts = others ++ more} invocations (used_on room between mid after others more rest then)
used_on room before mid after acts more (filing {mid = between} {put = put} {reported = reported} {acts = others} disk back ops f since holds crash rest) then =
    filing {mid = between} {put = put} {reported = reported} {acts = others ++ more} disk back ops f since holds crash (used_on room between mid after others more rest then)

-- with an act that came last
pub left_with : (hosts : HostsInTurn) (one : OneSheet) (disk : DiskView) (e : EarlierUses disk) (act : Act) (after : Image) → Uses disk.room (bytes_on disk) (act ∷ []) after → LeftWith disk e act after
left_with hosts one disk e act after last =
    let all = used_on disk.room e.image (bytes_on disk) after e.acts (act ∷ []) e.came last in
    let found = all_did hosts one disk.room e.image (sheet_of e.ops) (e.acts ++ act ∷ []) after e.found all in
    record { goes_on = all; sheet = found.last; did = found.did; image = found.image }

module _ {A C K : Type 0} (hosts : HostsInTurn) (one : OneSheet) (R : Rules A C K) (first last : ProgramParts A C K) (answer : Result (Unit {0}) RunFault)
    (it : RanOver R first last answer) (model : IsTrue first.disk.keeps_model) (e : EarlierUses first.disk) where
  ran_last : (turn : HostTurn) (after : Image) → Invocations first.disk.room (bytes_on first.disk) (turn ∷ []) after → LeftWith first.disk e (run_act turn) after
  ran_last turn after last_one = left_with hosts one first.disk e (run_act turn) after (turns_of last_one no_use)

  abbrev at_end : RunPlace A C K
  at_end = record { asked = it.asked; agenda = last.agenda; world = it.world; disk = last.disk; sources = it.sources; sink = last.sink }

  abbrev parts : (p : Parted (world_at_opening it.opened.ops first.disk.room it.opened.end) it.opened.now (trace it.steps) last.disk)
      × TriedLast R (first_place first it.opened) (ask ∷ []) it.steps p.events
  parts = parted_run R (first_place first it.opened) at_end (ask ∷ []) (left_at_end answer) it.steps it.ran

  abbrev whole : Parted (world_at_opening it.opened.ops first.disk.room it.opened.end) it.opened.now (trace it.steps) last.disk
  whole = parts.0

  pub within : CrashesLeave first.disk e (unknown_reports (turn_of it.steps whole.events)) it.opened.now.history last.disk.history
  within after crashed = ran_last (record { events = (turn_of it.steps whole.events).events; reported = [] }) after
      (cut_off {turn = turn_of it.steps whole.events} first.disk last.disk refl (visit_by R first last answer it model whole) crashed no_more)

  pub has_ended : CrashesLeave first.disk e (run_act (turn_of it.steps whole.events)) last.disk.history last.disk.history
  has_ended after crashed = ran_last (turn_of it.steps whole.events) after (ended first.disk last.disk refl (visit_by R first last answer it model whole) crashed no_more)

  pub printed_is : (done rest : List RunStep) (r : Report) → it.steps ≡ done ++ printed r ∷ rest → LeavesPrinted R first last answer it e done r
  printed_is done rest r is =
      let d = durable_at R first last answer it model done rest r is in record {
        there = d.there;
        to_do = d.to_do;
        ran = d.ran;
        of = printed_of R (first_place first it.opened) at_end (left_at_end answer) done rest r
            (subst (λ (steps : List RunStep). Run R (first_place first it.opened) (ask ∷ []) steps (left_at_end answer) at_end) is it.ran);
        sink = d.sink;
        tries = d.tries;
        unreported = d.unreported;
        tried = d.tried;
        since = λ after crashed. ran_last (record { events = (turn_of it.steps d.unreported).events; reported = outcomes_of (trace done) }) after
            (cut_since {turn = turn_of it.steps d.unreported} first.disk last.disk refl d.visit (outcomes_of (trace done)) d.there.disk.history d.since crashed no_more);
      }

  pub opening : OpeningLeaves first.disk it.opened.now.history
  opening restarted after crashed = opening_leaves (bytes_on first.disk) first.disk it.opened.now after restarted (it.opened.looks model) crashed

-- A crash that comes now leaves what a read gives, among others.
abbrev pub crashed_now : (h : History) (i : Image) → IsImage h.now i → CrashedSince h h i
crashed_now h i image = record { moment = length h.past; state = h.now; at = record { later = []; earlier = h.past; states = refl; moment_is = refl }; since = le_refl (length h.past); leaves = image }

module _ {A C K D : Type 0} (hosts : HostsInTurn) (one : OneSheet) (R : Rules A C K) (first back : ProgramParts A C K)
    (opened : Result HostView (OpenFault D)) (model : IsTrue first.disk.keeps_model) where
  abbrev given_back : DiskView → ProgramParts A C K
  given_back disk = with_disk disk back

  leaves_prefix : (disk : DiskView) (answer : Result (Unit {0}) RunFault) (it : RanOver R first (given_back disk) answer) → IsTrue disk.keeps_model → IsImage disk.history.now (bytes_on disk)
      → OpensAfterActs disk opened → (e : EarlierUses first.disk) → LeavesPrefix R first (given_back disk) answer opened it e
  leaves_prefix disk answer it kept image after e =
      let turn = turn_of it.steps (whole hosts one R first (given_back disk) answer it model e).events in
      let left = has_ended hosts one R first (given_back disk) answer it model e (bytes_on disk) (crashed_now disk.history (bytes_on disk) image) in record {
        unreported = (whole hosts one R first (given_back disk) answer it model e).events;
        tried = (parts hosts one R first (given_back disk) answer it model e).1;
        opening = opening hosts one R first (given_back disk) answer it model e;
        within = within hosts one R first (given_back disk) answer it model e;
        printed_is = printed_is hosts one R first (given_back disk) answer it model e;
        ended = has_ended hosts one R first (given_back disk) answer it model e;
        opens = after kept first.disk.room e.ops e.image (e.acts ++ run_act turn ∷ []) e.allowed e.found left.goes_on;
      }

  still_opens : (disk : DiskView) → IsTrue disk.keeps_model → Looks first.disk.history disk.history → OpensAfterActs disk opened → (e : EarlierUses first.disk)
      → OpensSo first.disk.room e.ops e.image (bytes_on disk) e.acts opened
  still_opens disk kept looks after e =
      after kept first.disk.room e.ops e.image e.acts e.allowed e.found (subst (λ (i : Image). Uses first.disk.room e.image e.acts i) (sym looks.content) e.came)

  pub runs_then_opens : (disk : DiskView) (answer : Result (Unit {0}) RunFault) → Over R first (given_back disk) answer → IsTrue disk.keeps_model → IsImage disk.history.now (bytes_on disk)
      → OpensAfterActs disk opened → OpenedAgain disk back.disk → RunsThenOpens R first back opened answer
  runs_then_opens disk answer (ran_over reported it) kept image after on = ran reported disk on it (leaves_prefix disk reported it kept image after)
  runs_then_opens disk answer (not_opened why was) kept image after on = unopened why disk on was
      (λ restarted crash crashed. opening_leaves (bytes_on first.disk) first.disk disk crash restarted (was.looks model) crashed)
      (still_opens disk kept (was.looks model) after)

-- A moment of an earlier history.

back_of : {A : Type 0} (xs ys later zs : List A) → xs ++ ys ≡ later ++ zs → length zs ≤ length ys → (front : List A) × (ys ≡ front ++ zs)
back_of [] ys later zs same few = (later, same)
back_of (x ∷ xs) ys [] zs same few =
    let all : length (x ∷ xs ++ ys) ≡ length zs = ap (λ (l : List _). length l) same in absurd (omega (arith, all, length-append xs ys, few))
back_of (x ∷ xs) ys (l ∷ later) zs same few = let rest : xs ++ ys ≡ later ++ zs = cc in back_of xs ys later zs rest few

at_earlier : (old new : History) (more : List DiskState) (moment : ℕ) (s : DiskState) → new.now ∷ new.past ≡ more ++ old.now ∷ old.past → AtMoment moment new s → moment ≤ length old.past → AtMoment moment old s
at_earlier old new more moment s is at few =
    let back = back_of more (old.now ∷ old.past) at.later (s ∷ at.earlier) (sym is ∙ at.states) (let place = at.moment_is in omega (arith, place, few)) in
    record { later = back.0; earlier = at.earlier; states = back.1; moment_is = at.moment_is }

-- A crash left this image of the disk at this moment, and it was opened.
module _ {A C K D : Type 0} (hosts : HostsInTurn) (one : OneSheet) (R : Rules A C K) (first last : ProgramParts A C K) (answer : Result (Unit {0}) RunFault) (it : RanOver R first last answer) (model : IsTrue first.disk.keeps_model)
    (moment : ℕ) (state : DiskState) (at : AtMoment moment last.disk.history state) (crash : DiskView) (kept : IsTrue crash.keeps_model) (image : IsImage state (bytes_on crash))
    (opened : Result HostView (OpenFault D)) (after : OpensAfterActs crash opened) (e : EarlierUses first.disk) where
  opens_with : (act : Act) → LeftWith first.disk e act (bytes_on crash) → OpensSo first.disk.room e.ops e.image (bytes_on crash) (e.acts ++ act ∷ []) opened
  opens_with act left = after kept first.disk.room e.ops e.image (e.acts ++ act ∷ []) e.allowed e.found left.goes_on

  abbrev crashed_at : (from : History) → length from.past ≤ moment → CrashedSince from last.disk.history (bytes_on crash)
  crashed_at from since = record { moment = moment; state = state; at = at; since = since; leaves = image }

  -- while the worksheet was being opened
  crashed_before : length first.disk.history.past ≤ moment → moment ≤ length it.opened.now.history.past → CrashedSince first.disk.history it.opened.now.history (bytes_on crash)
  crashed_before since until =
      let all = (whole hosts one R first last answer it model e).moments it.opened.holds in
      let from = all.1 (subst IsTrue (sym it.opened.same.keeps_model) model) in
      record { moment = moment; state = state; at = at_earlier it.opened.now.history last.disk.history from.more moment state from.states at until; since = since; leaves = image }

  pub opens_after_crash : OpensAfterCrash R first last answer it moment (bytes_on crash) opened e
  opens_after_crash = record {
    unreported = (whole hosts one R first last answer it model e).events;
    tried = (parts hosts one R first last answer it model e).1;
    opening = λ restarted since until.
        let same = opening hosts one R first last answer it model e restarted (bytes_on crash) (crashed_before since until) in
        after kept first.disk.room e.ops e.image e.acts e.allowed e.found (subst (λ (i : Image). Uses first.disk.room e.image e.acts i) (sym same) e.came);
    within = λ since.
        opens_with (unknown_reports (turn_of it.steps (whole hosts one R first last answer it model e).events))
        (within hosts one R first last answer it model e (bytes_on crash) (crashed_at it.opened.now.history since));
    printed_is = λ done rest r is.
        let p = printed_is hosts one R first last answer it model e done rest r is in (
          p,
          λ since.
              opens_with (run_reporting it.steps p.unreported done)
              (p.since (bytes_on crash) (crashed_at p.there.disk.history since)),
        );
  }

pub runs_then_crashes : {A C K D : Type 0} → HostsInTurn → OneSheet → (R : Rules A C K) (first last : ProgramParts A C K) (answer : Result (Unit {0}) RunFault) → IsTrue first.disk.keeps_model → Over R first last answer
    → (choice : Choice) (opened : Result HostView (OpenFault D)) → OpensCrashed choice last.disk opened → RunsThenCrashes R first last choice opened answer
runs_then_crashes hosts one R first last answer model (ran_over reported it) choice opened left =
    was_cut reported left.state (bytes_on left.crash) it left.at left.named left.image
    (λ e. opens_after_crash hosts one R first last reported it model choice.moment left.state left.at left.crash left.keeps_model left.image opened left.opens e)
runs_then_crashes hosts one R first last answer model (not_opened why was) choice opened left =
    not_begun why left.state (bytes_on left.crash) was left.at left.named left.image
    (λ e restarted since.
    let same : bytes_on left.crash ≡ bytes_on first.disk = opening_leaves (bytes_on first.disk) first.disk last.disk (bytes_on left.crash) restarted (was.looks model)
    (record { moment = choice.moment; state = left.state; at = left.at; since = since; leaves = left.image }) in
    left.opens left.keeps_model first.disk.room e.ops e.image e.acts e.allowed e.found (subst (λ (i : Image). Uses first.disk.room e.image e.acts i) (sym same) e.came))

-- what is opened after a crash is so where this follows
pub crash_opens : (choice : Choice) (disk : DiskView) (So Then : Result HostView (OpenFault MemoryDisk) → Type 0) → ((opened : Result HostView (OpenFault MemoryDisk)) → So opened → Then opened)
    → (came : AfterCrash) → CrashOpens choice disk So came → CrashOpens choice disk Then came
crash_opens choice disk So Then follows crashed_to.NotReached few = few
crash_opens choice disk So Then follows crashed_to.NoMemory many = many
crash_opens choice disk So Then follows (crashed_to.Opened opened) so = follows opened so

-- What is driven over a disk is a visit, and what it printed was durable.
use Rattle.std.proofs.Common.{◌≡◌, List, [], ◌∷◌, ◌++◌, refl, sym, ap, subst, append_assoc, ◌∙◌, IsTrue}
use Rattle.std.specs.Prelude.{Result}
use Rattle.std.proofs.lemmas.Grind.{flat_map-append}
use Rattle.disk_model.specs.Disk.{Image, LeavesOnly, bytes_on}
use Rattle.disk_model.specs.inside.Moments.{weakens}
use Rattle.host_events.specs.declared.event.Event.{Event}
use Rattle.host_events.specs.declared.outcome.Outcome.{Outcome}
use Rattle.session_engine.specs.World.{World, world_at_opening}
use Rattle.session_engine.specs.Does.{Runs}
use Rattle.session_engine.specs.Crash.{LeftAmong}
use Rattle.child_edge.specs.Faithful.{Entry}
use Rattle.child_edge.specs.Moments.{events_of, outcomes_of}
use Rattle.offline_programs.specs.declared.fault.RunFault.{RunFault}
use Rattle.theorem.specs.Programs.{HasReported, Visit}
use Rattle.driver.specs.Reports.{Report}
use Rattle.driver.specs.Items.{RunStep, ask, entries_of, printed}
use Rattle.driver.specs.Place.{RunPlace, Rules}
use Rattle.driver.specs.Steps.{Run}
use Rattle.driver.specs.Laws.{trace}
use Rattle.driver.specs.Runs.{left_at_end}
use Rattle.driver.specs.Over.{ProgramParts, RanOver, first_place}
use Rattle.driver.proofs.Courses.{events_append, runs_on}
use Rattle.driver.proofs.Order.{printed_there}
use Rattle.driver_visits.specs.Visits.{DurableAt, EndsAsVisit, turn_of}
use Rattle.driver_visits.specs.Tried.{TriedLast}
use Rattle.driver_visits.proofs.Parts.{Parted, parted_after, parted_as, parted_run, tried_on}

module _ {A C K : Type 0} (R : Rules A C K) (first last : ProgramParts A C K) (answer : Result (Unit {0}) RunFault) (it : RanOver R first last answer) (model : IsTrue first.disk.keeps_model) where
  abbrev start : World
  start = world_at_opening it.opened.ops first.disk.room it.opened.end

  abbrev at_end : RunPlace A C K
  at_end = record { asked = it.asked; agenda = last.agenda; world = it.world; disk = last.disk; sources = it.sources; sink = last.sink }

  abbrev pub visit_by : (p : Parted start it.opened.now (trace it.steps) last.disk) → Visit (bytes_on first.disk) first.disk (turn_of it.steps p.events) last.disk
  visit_by p = record {
    ops = it.opened.ops;
    end = it.opened.end;
    now = it.opened.now;
    begun = record {
      keeps_model = model;
      read = refl;
      allowed = it.opened.allowed;
      found = it.opened.found model;
      ends = it.opened.ends model;
      kept = subst IsTrue (sym it.opened.same.keeps_model) model;
    };
    events = events_of (trace it.steps);
    leads = p.leads;
    mid = p.mid;
    course = record { runs = p.course.runs; same = p.course.same; moments = p.course.moments it.opened.holds; holds = p.course.holds it.opened.holds };
    unreported = p.events;
    ended = p.ended;
    is = refl;
  }

  pub ends_as_visit : EndsAsVisit R first last answer it
  ends_as_visit =
      let p = parted_run R (first_place first it.opened) at_end (ask ∷ []) (left_at_end answer) it.steps it.ran in
      record { unreported = p.0.events; visit = visit_by p.0; looks = it.opened.looks model; tried = p.1 }

  -- an image after events of the steps before, and some of those that came then
  has_all : (bs cs : List Entry) (v : World) (es : List Event) (os : List Outcome) (i : Image) → Runs start (events_of bs) (outcomes_of bs) v → LeftAmong v (events_of cs ++ es) os i
      → HasReported start (events_of (bs ++ cs) ++ es) (outcomes_of bs) i
  has_all bs cs v es os i runs l = record {
    taken = events_of bs ++ l.done;
    lost = l.more;
    split = ap (λ (x : List Event). x ++ es) (events_append bs cs) ∙ append_assoc (events_of bs) (events_of cs) es ∙ ap
        (λ (x : List Event). events_of bs ++ x) l.split ∙ sym (append_assoc (events_of bs) l.done l.more);
    withheld = l.outcomes;
    leads = l.leads;
    runs = runs_on start (events_of bs) (outcomes_of bs) v l.done l.outcomes l.leads runs l.runs;
    image = l.image;
  }

  pub durable_at : (before after : List RunStep) (r : Report) → it.steps ≡ before ++ printed r ∷ after → DurableAt R first last answer it before r
  durable_at before after r is =
      let so = printed_there R (first_place first it.opened) at_end (ask ∷ []) (left_at_end answer) before after r
      (subst (λ (x : List RunStep). Run R (first_place first it.opened) (ask ∷ []) x (left_at_end answer) at_end) is it.ran) in
      let there = so.there in
      let later = parted_run R (record there { sink = so.sink }) at_end so.then_to_do (left_at_end answer) after so.goes_on in
      let tail = later.0 in
      let same : trace it.steps ≡ trace before ++ trace after = ap trace is ∙ flat_map-append entries_of before (printed r ∷ after) in
      let m = tail.moments (so.course.holds it.opened.holds) in
      let kept : IsTrue there.disk.keeps_model = subst IsTrue (sym so.course.same.keeps_model) (subst IsTrue (sym it.opened.same.keeps_model) model) in record {
        unreported = tail.events;
        visit = visit_by (parted_as start it.opened.now (trace it.steps) (trace before ++ trace after) last.disk same
            (parted_after start it.opened.now (trace before) there.world there.disk (trace after) last.disk so.course tail));
        tried = subst (λ (steps : List RunStep). TriedLast R (first_place first it.opened) (ask ∷ []) steps tail.events) (sym is)
            (tried_on R (first_place first it.opened) there (ask ∷ []) so.to_do before (printed r ∷ after) tail.events so.ran
            (tried_on R there (record there { sink = so.sink }) so.to_do so.then_to_do (printed r ∷ []) after tail.events (so.then_to_do, record there { sink = so.sink }, so.goes, (refl, refl)) later.1));
        there = there;
        to_do = so.to_do;
        ran = so.ran;
        sink = so.sink;
        tries = so.tries;
        since = subst (λ (l : List Entry). LeavesOnly (HasReported start (events_of l ++ tail.events) (outcomes_of (trace before))) there.disk.history last.disk.history) (sym same)
            (weakens (LeftAmong there.world (events_of (trace after) ++ tail.events) (outcomes_of (trace after) ++ m.0))
            (HasReported start (events_of (trace before ++ trace after) ++ tail.events) (outcomes_of (trace before)))
            there.disk.history last.disk.history (λ i l. has_all (trace before) (trace after) there.world tail.events (outcomes_of (trace after) ++ m.0) i so.course.runs l) (m.1 kept));
      }

-- A program over a disk.
use Rattle.std.proofs.Common.{◌≡◌, ℕ, List, [], ◌∷◌, sym, subst, Ok, Err}
use Rattle.std.specs.Prelude.{Result, option_map}
use Rattle.disk_model.specs.Disk.{DiskView, InModel, Looks, SameDisk, bytes_on}
use Rattle.host_events.specs.declared.event.Event.{Event}
use Rattle.host_events.specs.declared.outcome.HostFault.{HostFault}
use Rattle.worksheet.specs.declared.op.Op.{Op}
use Rattle.worksheet.specs.Contents.{Contents}
use Rattle.recovery.specs.Sheets.{IsSheetImage}
use Rattle.session_engine.specs.World.{World, life_of, sheet_in, world_at_opening}
use Rattle.session_engine.specs.Host.{EndsAt, HostView, IsHost, number_in}
use Rattle.child_edge.specs.Edge.{Stopped}
use Rattle.child_edge.specs.Faithful.{Relation}
use Rattle.child_edge.specs.Seats.{running}
use Rattle.child_edge.specs.Stops.{Stops}
use Rattle.offline_programs.specs.declared.fault.RunFault.{RunFault}
use Rattle.driver.specs.Items.{ask}
use Rattle.driver.specs.Place.{Rules}
use Rattle.driver.specs.Steps.{Run}
use Rattle.driver.specs.Runs.{DidSteps, Stands, StandsBy, left_at_end, lost_there, parts, stopped, works}
use Rattle.driver.specs.Stopping.{StopsAll, at_gate, in_world}
use Rattle.driver.specs.Over.{SheetOpened, Over, first_place, program_parts, ran_over}

abbrev pub opened_by : (disk : DiskView) (h : HostView) (ops : List Op) → IsHost h (world_at_opening ops disk.room h.store.end) → SameDisk disk h.store.disk
    → InModel disk (IsSheetImage h.store.sheet.contents (bytes_on disk)) → InModel disk (EndsAt (bytes_on disk) h.store.end) → InModel disk (Looks disk.history h.store.disk.history) → SheetOpened disk
opened_by disk h ops is same found ends looks = record {
  ops = ops;
  end = h.store.end;
  now = h.store.disk;
  allowed = is.stands.allowed;
  found = λ model. subst (λ (s : Contents). IsSheetImage s (bytes_on disk)) is.stands.contents (found model);
  ends = ends;
  looks = looks;
  same = same;
  holds = is.stands.images;
}

-- Each life that goes on was stopped.

-- what a call that stops all says: of the world that a host represents, or represented before its fault, or of which it has the worksheet and each
-- life's number
pub record StopsOf {C : Type 0} (R : Relation C) (h : HostView) (c d : C) : Type 0 where
  pub working : (v : World) → IsHost h v → Stops R (running v) c d
  pub gone : (v : World) (e : Event) (before : DiskView) (f : HostFault) → Stopped before h v e f → Stops R (running v) c d
  pub numbered : (v : World) → h.store.sheet.contents ≡ sheet_in v → ((name : List ℕ) → number_in h.lives name ≡ option_map (λ l. l.number) (life_of v name)) → Stops R (running v) c d

pub stops_at : {C : Type 0} (R : Relation C) (h : HostView) (w : World) (c d : C) → StopsOf R h c d → Stands h w → StopsAll R h w c d
stops_at R h w c d s (works is) = in_world (s.working w is)
stops_at R h w c d s (stopped before e f is) = in_world (s.gone w e before f is)
stops_at R h w c d s (lost_there events before is) = at_gate events before is (s.numbered is.leads is.contents is.numbers)

pub stops_by : {C : Type 0} (R : Relation C) (h : HostView) (w : World) (c d : C) → StopsOf R h c d → (answer : Result (Unit {0}) RunFault) → StandsBy answer h w → StopsAll R h w c d
stops_by R h w c d s (Ok done) is = in_world (s.working w is)
stops_by R h w c d s (Err why) is = stops_at R h w c d s is

pub over_ran : {A C K : Type 0} (R : Rules A C K) (disk back : DiskView) (o : SheetOpened disk) (c d e : C) (k l : K) (a b : A) (answer : Result (Unit {0}) RunFault) (n : ℕ) (h : HostView)
    → (did : DidSteps R (first_place (program_parts disk c k a) o) (ask ∷ []) left_at_end answer (n, parts h d l b)) → back ≡ h.store.disk
    → StopsAll R.sources.after h did.world d e → Over R (program_parts disk c k a) (program_parts back e l b) answer
over_ran R disk back o c d e k l a b answer n h did is stops = ran_over answer (record {
  opened = o;
  steps = did.steps;
  asked = n;
  world = did.world;
  sources = d;
  host = h;
  ran = subst (λ (x : DiskView). Run R (first_place (program_parts disk c k a) o) (ask ∷ []) did.steps (left_at_end answer) (record { asked = n; agenda = b; world = did.world; disk = x; sources = d; sink = l })) (sym is) did.ran;
  stands = did.stands;
  disk_is = is;
  stops = stops;
})

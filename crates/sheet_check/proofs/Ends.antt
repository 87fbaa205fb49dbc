-- Where a check ends.
use Rattle.std.proofs.Common.{◌≡◌, ◌∙◌, inl, inr, ℕ, List, [], Option, refl, sym, subst, append-nil}
use Rattle.std.specs.Prelude.{Some, None, Result, Ok, Err, IfNone, IfSome, option_map}
use Rattle.std.proofs.KnownBytes.{Appends-trans}
use Rattle.std.specs.Io.KnownBytes.{Appends}
use Rattle.disk_model.specs.Disk.{DiskView}
use Rattle.worksheet.specs.declared.field.Field.{Field}
use Rattle.worksheet.specs.Contents.{Contents}
use Rattle.session_engine.specs.World.{World, life_of, sheet_in}
use Rattle.session_engine.specs.Host.{HostView, number_in}
use Rattle.child_edge.specs.Faithful.{At, Relation, at}
use Rattle.child_edge.specs.Seats.{running}
use Rattle.child_edge.specs.Stops.{Stops}
use Rattle.offline_programs.specs.declared.fault.RunFault.{RunFault}
use Rattle.offline_programs.specs.declared.fault.RunFault.TheVariants as fault
use Rattle.sheet_check.proofs.Opening.{StopsIn}
use Rattle.check_report.specs.declared.verdict.VerdictCounts.{VerdictCounts}
use Rattle.check_report.specs.Reports.{closing_text, report_front, judgements_of}
use Rattle.check_report.specs.Verdicts.{counts_of}
use Rattle.live.specs.Records as records
use Rattle.driver.specs.Runs.{Stands}
use Rattle.evaluation.specs.declared.plan.Plan.{Plan}
use Rattle.sheet_check.specs.Evaluated.{OneByOne}
use Rattle.sheet_check.specs.Driven.{DriveBroke, broke_off, one_plan, unplanned}
use Rattle.sheet_check.specs.Check.{FirstLed, IsCopy, SheetAnswer, SheetChecked, SheetLed, TellsCheck, passage, still, world_at_break}
use Rattle.sheet_check.specs.Check as ends
use Rattle.sheet_check.specs.inside.Checking.{CountsWritten, FieldsEnded, FieldsFailed, FieldsStopped, FieldsWrote, FirstFailed, FirstStopped, LeavesText, OnCopy}
use Rattle.sheet_check.specs.inside.Checking as inside
use Rattle.driver.specs.Stopping.{StopsAll, in_world}
use Rattle.driver.proofs.Overs.{stops_at}
use Rattle.sheet_check.proofs.Own.{never_output}

-- The stops.

pub fields_ended : {C : Type 0} (o : OneByOne C) (fields : List Field) (s : At C) (h : HostView) (c d : C) (a b : Option (List ℕ)) (counts : VerdictCounts) → StopsIn o.way.after h c d → FieldsWrote o fields s (records.left h c a b) counts
    → FieldsEnded o fields s.world s.disk (passage s.children d a b) counts
fields_ended o fields s h c d a b counts stops p = (p.0, at p.1 c h.store.disk, p.2, stops.0 p.1 p.3, p.4, p.5)

-- the lives of a world are stopped of which a host has the worksheet and each life's number
abbrev pub StopsNumbered : {C : Type 0} → Relation C → HostView → C → C → Type 0
StopsNumbered R h c d = (v : World) → h.store.sheet.contents ≡ sheet_in v → ((name : List ℕ) → number_in h.lives name ≡ option_map (λ l. l.number) (life_of v name)) → Stops R (running v) c d

module _ {C : Type 0} (o : OneByOne C) (fields : List Field) (s : At C) (h : HostView) (c d : C) (stops : StopsIn o.way.after h c d) (numbered : StopsNumbered o.way.after h c d) where
  stops_where : (w : World) → Stands h w → StopsAll o.way.after h w c d
  stops_where w stands = stops_at o.way.after h w c d (record { working = stops.0; gone = stops.1; numbered = numbered }) stands

  all-stopped : (plan : Plan) (why : RunFault) (b : DriveBroke o.way plan s h c why) → StopsAll o.way.after h (world_at_break b) c d
  all-stopped plan why (unplanned is same stands) = in_world (stops.0 s.world stands)
  all-stopped plan why (broke_off b) = stops_where b.world b.stands

  pub first-stopped : (why : RunFault) → FirstFailed o fields s h c why → FirstStopped o fields s d why
  first-stopped why (inside.halted b) = inside.halted h c b (all-stopped (one_plan o.way b.field.id) b.cause b.broke)
  first-stopped why (inside.unremembered t is led stands) = inside.unremembered (at t c h.store.disk) is led (stops.0 t stands)
  first-stopped why (inside.unwritten t is led stands) = inside.unwritten (at t c h.store.disk) is led (stops.0 t stands)

-- the text, where the writer didn't fail
pub text_left : (a b : Option (List ℕ)) (text : List ℕ) (why : RunFault) → LeavesText a b text why → (why ≡ fault.Output → ⊥) → Appends a b text
text_left a b text why (inl is) not-output = absurd (not-output is)
text_left a b text why (inr wrote) not-output = wrote

pub fields_stopped : {C : Type 0} (o : OneByOne C) (fields : List Field) (s : At C) (h : HostView) (c d : C) (a b : Option (List ℕ)) (why : RunFault) → StopsIn o.way.after h c d → StopsNumbered o.way.after h c d
    → FieldsFailed o fields s (records.left h c a b) why
    → FieldsStopped o fields s.world s.disk (passage s.children d a b) why
fields_stopped o fields s h c d a b why stops numbered p = record {
  gone = p.gone;
  left = p.left;
  split = p.split;
  cases = p.cases;
  mid = p.mid;
  checked = p.checked;
  ended = first-stopped o p.left p.mid h c d stops numbered why p.failed;
  wrote = p.wrote;
}

-- The whole.

module _ {C : Type 0} (o : OneByOne C) (sheet : Contents) (w : World) (copy : DiskView) (copied : IsCopy sheet w copy) (c d : C) (a b : Option (List ℕ)) where
  pub sheet_checked : (e : Option (List ℕ)) (counts : VerdictCounts) → FieldsEnded o sheet.fields w copy (passage c d a b) counts → Appends b e (closing_text o.format counts)
      → SheetChecked o sheet (passage c d a e) counts
  sheet_checked e counts p reported = record {
    start = w;
    copy = copy;
    copied = copied;
    cases = p.0;
    leads = p.1;
    checked = p.2;
    stops = p.3;
    counted = p.4;
    wrote = Appends-trans a b e (report_front o.format p.0) (closing_text o.format (counts_of (judgements_of p.0))) p.5 (subst (λ x. Appends b e (closing_text o.format x)) p.4 reported);
  }

  -- the counts couldn't be reported
  pub counts_withheld : (e : Option (List ℕ)) (counts : VerdictCounts) (none : Type 0) (why : RunFault) → FieldsEnded o sheet.fields w copy (passage c d a b) counts → why ≡ fault.Output
      → TellsCheck o sheet (passage c d a e) none why
  counts_withheld e counts none why p is = ends.unwritten p.0 is
      (record {
        start = w;
        copy = copy;
        copied = copied;
        gone = sheet.fields;
        left = [];
        split = sym (append-nil sheet.fields);
        mid = p.1;
        checked = p.2;
        leads = p.1;
        led = still refl;
        stops = p.3;
      })

  pub stopped_tells : (none : Type 0) (why : RunFault) → FieldsStopped o sheet.fields w copy (passage c d a b) why → TellsCheck o sheet (passage c d a b) none why
  stopped_tells none why p = tells p.ended
    where
      text : (why ≡ fault.Output → ⊥) → Appends a b (report_front o.format p.cases)
      text withheld = text_left a b (report_front o.format p.cases) why p.wrote withheld

      led : (t : At C) → FirstLed o p.left p.mid t → Stops o.way.after (running t.world) t.children d → SheetLed o sheet c d p.cases
      led t so stops =
          record { start = w; copy = copy; copied = copied; gone = p.gone; left = p.left; split = p.split; mid = p.mid; checked = p.checked; leads = t; led = so; stops = stops }

      tells : FirstStopped o p.left p.mid d why → TellsCheck o sheet (passage c d a b) none why
      tells (inside.halted h m broke stops) = ends.halted p.cases
          (record { start = w; copy = copy; copied = copied; gone = p.gone; left = p.left; split = p.split; mid = p.mid; checked = p.checked; host = h; sources = m; broke = broke; stops = stops })
          (text (never_output why broke.of))
      tells (inside.unremembered t is so stops) = ends.unremembered p.cases is (led t so stops) (text (λ e. let no : fault.OutOfMemory ≡ fault.Output = sym is ∙ e in cc))
      tells (inside.unwritten t is so stops) = ends.unwritten p.cases is (led t so stops)

-- The counts were written, or there was no memory for the copy.
pub check_answered : {C : Type 0} (o : OneByOne C) (sheet : Contents) (c d : C) (a b e : Option (List ℕ)) (nothing : Type 0) (answer : Option (Result VerdictCounts RunFault)) (result : Result VerdictCounts RunFault)
    → IfSome answer (OnCopy o sheet (passage c d a b)) → IfNone answer nothing → CountsWritten o.format b e answer result → SheetAnswer o sheet (passage c d a e) nothing result
check_answered o sheet c d a b e nothing None result some none is = subst (SheetAnswer o sheet (passage c d a e) nothing) (sym is) (ends.not_begun refl none)
check_answered o sheet c d a b e nothing (Some (Ok counts)) result some none (inl (is, closing)) =
    subst (SheetAnswer o sheet (passage c d a e) nothing) (sym is) (sheet_checked o sheet some.0 some.1 some.2 c d a b e counts some.3 closing)
check_answered o sheet c d a b e nothing (Some (Ok counts)) result some none (inr is) =
    subst (SheetAnswer o sheet (passage c d a e) nothing) (sym is) (counts_withheld o sheet some.0 some.1 some.2 c d a b e counts nothing fault.Output some.3 refl)
check_answered o sheet c d a b e nothing (Some (Err why)) result some none (is, same) =
    subst (SheetAnswer o sheet (passage c d a e) nothing) (sym is)
    (subst (λ x. TellsCheck o sheet (passage c d a x) nothing why) (sym same) (stopped_tells o sheet some.0 some.1 some.2 c d a b nothing why some.4))

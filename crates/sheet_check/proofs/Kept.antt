-- Where a check ends that accepts what differs.
use Rattle.std.proofs.Common.{◌≡◌, ◌∙◌, inl, inr, ℕ, List, [], ◌∷◌, ◌++◌, Option, IsTrue, false, ap, refl, sym, subst, append-nil, arith}
use Rattle.std.specs.Prelude.{Some, None, Result, Ok, Err, IfNone, IfSome}
use Rattle.std.proofs.KnownBytes.{Appends-trans}
use Rattle.std.specs.Io.KnownBytes.{Appends}
use Rattle.disk_model.specs.Disk.{DiskView, InModel, Leaves, Looks, SameDisk, bytes_on}
use Rattle.disk_model.specs.inside.Moments.{started}
use Rattle.worksheet.specs.Ops.{sheet_of}
use Rattle.recovery.specs.Laws.{OneSheet}
use Rattle.worksheet.specs.declared.op.Op.{Op}
use Rattle.worksheet.specs.Contents.{Contents}
use Rattle.recovery.specs.Sheets.{IsSheetImage, Makes, StoreView}
use Rattle.sheet_check.specs.Kept.{IsAmong, Stores}
use Rattle.session_engine.specs.World.{World, sheet_in}
use Rattle.session_engine.specs.Host.{HostView, IsHost}
use Rattle.child_edge.specs.Faithful.{At, at}
use Rattle.child_edge.specs.Seats.{running}
use Rattle.child_edge.specs.Stops.{Stops}
use Rattle.journal.specs.declared.opening.OpenCause.{OpenCause}
use Rattle.host_events.specs.declared.outcome.HostFault.TheVariants as hosts
use Rattle.offline_programs.specs.declared.fault.RunFault.{RunFault}
use Rattle.offline_programs.specs.declared.fault.RunFault.TheVariants as fault
use Rattle.sheet_check.proofs.Opening.{StopsIn}
use Rattle.check_report.specs.declared.chosen.Chosen.{Chosen}
use Rattle.check_report.specs.declared.report.ReportFormat.TheVariants as format
use Rattle.check_report.specs.declared.verdict.VerdictCounts.{VerdictCounts}
use Rattle.check_report.specs.Reports.{Case, closing_text, report_front, judgements_of}
use Rattle.check_report.specs.Verdicts.{counts_of}
use Rattle.live.specs.Records as records
use Rattle.sheet_check.specs.Accept.{AcceptLeft, FiledAll, Filing, FoundOn, SheetAccepts, to_accept}
use Rattle.sheet_check.specs.Accept as ends
use Rattle.sheet_check.specs.Check.{FirstLed, IsCopy, SheetLed, passage, still}
use Rattle.sheet_check.specs.Evaluated.{Way}
use Rattle.sheet_check.specs.inside.Accepting.{FieldsBroke, FieldsTook, FieldsUpTo, OnCopy, broken, early, full, unwritten}
use Rattle.sheet_check.specs.inside.Checking.{CountsWritten, FieldsEnded, FieldsFailed, FirstStopped}
use Rattle.sheet_check.specs.inside.Checking as inside
use Rattle.sheet_check.proofs.Ends.{StopsNumbered, first-stopped, text_left}
use Rattle.sheet_check.proofs.Own.{never_open}

module _ {C : Type 0} (o : Way C) (chosen : Chosen) (sheet : Contents) (w : World) (copy : DiskView) (h : HostView) (c mid d : C) (a b : Option (List ℕ))
    (x : Filing) (stops : StopsIn o.after h mid d)
    (numbered : StopsNumbered o.after h mid d) where
  pub took_ended : (counts : VerdictCounts) → FieldsTook (to_accept o chosen) sheet.fields (at w c copy) (records.left h mid a b) x counts
      → (ended : FieldsEnded (to_accept o chosen) sheet.fields w copy (passage c d a b) counts) × FiledAll x a ended.0
  took_ended counts p = ((p.0.0, at p.0.1 mid h.store.disk, p.0.2, stops.0 p.0.1 p.0.3, p.0.4, p.0.5), p.1)

  led-so : IsCopy sheet w copy → (cases : List Case) → FieldsUpTo (to_accept o chosen) sheet.fields (at w c copy) h mid cases → SheetLed (to_accept o chosen) sheet c d cases
  led-so copied cases p = record {
    start = w;
    copy = copy;
    copied = copied;
    gone = p.gone;
    left = p.left;
    split = p.split;
    mid = at p.leads mid h.store.disk;
    checked = p.checked;
    leads = at p.leads mid h.store.disk;
    led = still refl;
    stops = stops.0 p.leads p.stands;
  }

  early-left : IsCopy sheet w copy → (why : RunFault) → (p : FieldsFailed (to_accept o chosen) sheet.fields (at w c copy) (records.left h mid a b) why) → (why ≡ fault.Output → ⊥) → FiledAll x a p.cases
      → AcceptLeft (to_accept o chosen) sheet (passage c d a b) x why
  early-left copied why p withheld filed = left-by (first-stopped (to_accept o chosen) p.left p.mid h mid d stops numbered why p.failed)
      (text_left a b (report_front format.Accepting p.cases) why p.wrote withheld)
    where
      led-to : (t : At C) → FirstLed (to_accept o chosen) p.left p.mid t → Stops o.after (running t.world) t.children d → SheetLed (to_accept o chosen) sheet c d p.cases
      led-to t so stopped =
          record { start = w; copy = copy; copied = copied; gone = p.gone; left = p.left; split = p.split; mid = p.mid; checked = p.checked; leads = t; led = so; stops = stopped }

      left-by : FirstStopped (to_accept o chosen) p.left p.mid d why → Appends a b (report_front format.Accepting p.cases) → AcceptLeft (to_accept o chosen) sheet (passage c d a b) x why
      left-by (inside.halted k m broke stopped) wrote = ends.halted p.cases
          (record { start = w; copy = copy; copied = copied; gone = p.gone; left = p.left; split = p.split; mid = p.mid; checked = p.checked; host = k; sources = m; broke = broke; stops = stopped })
          wrote filed
      left-by (inside.unremembered t is so stopped) wrote = ends.unremembered p.cases is (led-to t so stopped) wrote filed
      left-by (inside.unwritten t is so stopped) wrote = absurd (withheld is)

  pub broke_left : IsCopy sheet w copy → (why : RunFault) → FieldsBroke (to_accept o chosen) sheet.fields (at w c copy) (records.left h mid a b) x why → AcceptLeft (to_accept o chosen) sheet (passage c d a b) x why
  broke_left copied why (early failed withheld filed) = early-left copied why failed withheld filed
  broke_left copied why (full cases last one is checked taken wrote filed place) = ends.full cases last one is (led-so copied (cases ++ last ∷ []) checked) taken wrote filed place
  broke_left copied why (broken cases last one is checked taken wrote filed) = ends.broken cases last one is (led-so copied (cases ++ last ∷ []) checked) taken wrote filed
  broke_left copied why (unwritten cases last is checked filed) = ends.unwritten cases last is (led-so copied (cases ++ last ∷ []) checked) filed

-- The counts are reported, or not.
module _ {C : Type 0} (o : Way C) (chosen : Chosen) (sheet : Contents) (w : World) (copy : DiskView) (copied : IsCopy sheet w copy) (c d : C)
    (a b e : Option (List ℕ)) (x : Filing) (nothing : Type 0) (counts : VerdictCounts)
    (p : (ended : FieldsEnded (to_accept o chosen) sheet.fields w copy (passage c d a b) counts) × FiledAll x a ended.0) where
  pub counts_reported : Appends b e (closing_text format.Accepting counts) → SheetAccepts (to_accept o chosen) sheet (passage c d a e) nothing x (Ok counts)
  counts_reported reported = (
    record {
      start = w;
      copy = copy;
      copied = copied;
      cases = p.0.0;
      leads = p.0.1;
      checked = p.0.2;
      stops = p.0.3;
      counted = p.0.4;
      wrote = Appends-trans a b e (report_front format.Accepting p.0.0) (closing_text format.Accepting (counts_of (judgements_of p.0.0))) p.0.5
          (subst (λ n. Appends b e (closing_text format.Accepting n)) p.0.4 reported);
    },
    p.1,
  )

  pub counts_kept_back : (why : RunFault) → why ≡ fault.Output → AcceptLeft (to_accept o chosen) sheet (passage c d a e) x why
  counts_kept_back why is = ends.uncounted p.0.0 is
      (record {
        start = w;
        copy = copy;
        copied = copied;
        gone = sheet.fields;
        left = [];
        split = sym (append-nil sheet.fields);
        mid = p.0.1;
        checked = p.0.2;
        leads = p.0.1;
        led = still refl;
        stops = p.0.3;
      })
      refl p.1

-- A host on a copy has the worksheet that was copied.
pub copy_is : OneSheet → (sheet : Contents) (w : World) (h : HostView) → IsHost h w → IsCopy sheet w h.store.disk → h.store.sheet.contents ≡ sheet
copy_is law sheet w h stands copied =
    stands.stands.contents ∙ ap sheet_in copied.opened.is ∙ law (sheet_of copied.opened.ops) sheet (bytes_on copied.made) (copied.opened.found copied.keeps) copied.is

-- A store that was opened.
module _ (disk : DiskView) (store : StoreView) (ops : List Op) (makes : Makes ops store.sheet.contents) (going : store.closed ≡ false) (same : SameDisk disk store.disk) where
  model : IsTrue store.disk.keeps_model → IsTrue disk.keeps_model
  model keeps = subst IsTrue same.keeps_model keeps

  pub opened_stores : InModel disk (Leaves (IsSheetImage store.sheet.contents) store.disk.history.now) → Stores ops [] store.disk store
  opened_stores images =
      let contents : store.sheet.contents ≡ sheet_of (ops ++ []) = makes.is ∙ ap sheet_of (sym (append-nil ops)) in
      let here : InModel store.disk (Leaves (IsSheetImage (sheet_of (ops ++ []))) store.disk.history.now) = λ keeps. subst
      (λ (c : Contents). Leaves (IsSheetImage c) store.disk.history.now) contents (images (model keeps)) in
      record {
        still_open = going;
        contents = contents;
        disk = record {
          from = tt;
          same = record { room = refl; keeps_model = refl; later = omega arith };
          steady = refl;
          holds = here;
          moments = λ keeps. started (IsAmong ops []) store.disk.history (λ i image. record { done = []; rest = []; split = refl; image = here keeps i image });
        };
      }

  pub opened_on : store.disk.faults ≡ disk.faults → InModel disk (IsSheetImage store.sheet.contents (bytes_on disk)) → InModel disk (Looks disk.history store.disk.history)
      → InModel disk (Leaves (IsSheetImage store.sheet.contents) store.disk.history.now) → FoundOn disk store.sheet.contents ops store.disk
  opened_on steady found looks durable = record { is = makes.is; same = same; steady = steady; found = found; looks = looks; durable = durable }

-- A worksheet that was opened isn't reported as one that wasn't.
module _ {C : Type 0} (o : Way C) (chosen : Chosen) (sheet : Contents) (c d : C) (a b : Option (List ℕ)) (f : Filing) (x : OpenCause) where
  left_opened : (why : RunFault) → why ≡ fault.Open x → AcceptLeft (to_accept o chosen) sheet (passage c d a b) f why → ⊥
  left_opened why e (ends.halted cases led wrote holds) = never_open why x led.broke.of e
  left_opened why e (ends.unremembered cases is led wrote holds) = let no : fault.OutOfMemory ≡ fault.Open x = sym is ∙ e in cc
  left_opened why e (ends.full cases last one is led taken wrote holds place) = let no : fault.Host hosts.JournalFull ≡ fault.Open x = sym is ∙ e in cc
  left_opened why e (ends.broken cases last one is led taken wrote holds) = let no : fault.Host hosts.Disk ≡ fault.Open x = sym is ∙ e in cc
  left_opened why e (ends.unwritten cases last is led holds) = let no : fault.Output ≡ fault.Open x = sym is ∙ e in cc
  left_opened why e (ends.uncounted cases is led all holds) = let no : fault.Output ≡ fault.Open x = sym is ∙ e in cc

  pub was_opened : (nothing : Type 0) → SheetAccepts (to_accept o chosen) sheet (passage c d a b) nothing f (Err (fault.Open x)) → ⊥
  was_opened nothing (inl p) = let no : fault.Open x ≡ fault.OutOfMemory = p.0 in cc
  was_opened nothing (inr left) = left_opened (fault.Open x) refl left

-- The counts were written, or there was no memory for the copies.
pub accept_answered : {C : Type 0} (o : Way C) (chosen : Chosen) (sheet : Contents) (c d : C) (a b e : Option (List ℕ)) (x : Filing) (nothing : Type 0)
    (answer : Option (Result VerdictCounts RunFault)) (result : Result VerdictCounts RunFault) → IfSome answer (OnCopy (to_accept o chosen) sheet (passage c d a b) x)
    → IfNone answer (nothing × FiledAll x a []) → CountsWritten format.Accepting b e answer result
    → SheetAccepts (to_accept o chosen) sheet (passage c d a e) nothing x result
accept_answered o chosen sheet c d a b e x nothing None result some none is =
    subst (SheetAccepts (to_accept o chosen) sheet (passage c d a e) nothing x) (sym is) (inl (refl, none.0, none.1))
accept_answered o chosen sheet c d a b e x nothing (Some (Ok counts)) result some none (inl (is, closing)) =
    subst (SheetAccepts (to_accept o chosen) sheet (passage c d a e) nothing x) (sym is)
    (counts_reported o chosen sheet some.0 some.1 some.2 c d a b e x nothing counts some.3 closing)
accept_answered o chosen sheet c d a b e x nothing (Some (Ok counts)) result some none (inr is) =
    subst (SheetAccepts (to_accept o chosen) sheet (passage c d a e) nothing x) (sym is)
    (inr (counts_kept_back o chosen sheet some.0 some.1 some.2 c d a b e x nothing counts some.3 fault.Output refl))
accept_answered o chosen sheet c d a b e x nothing (Some (Err why)) result some none (is, same) =
    subst (SheetAccepts (to_accept o chosen) sheet (passage c d a e) nothing x) (sym is)
    (inr (subst (λ t. AcceptLeft (to_accept o chosen) sheet (passage c d a t) x why) (sym same) some.4))

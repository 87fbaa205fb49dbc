-- Reports in order go on with each answer that is put.
use Rattle.std.proofs.Common.{◌≡◌, ◌∙◌, ℕ, List, [], ◌∷◌, ◌++◌, Option, IsTrue, refl, ap, sym, subst, append_assoc, append-nil, arith}
use Rattle.disk_model.specs.Disk.{DiskView, Image, InModel, Leaves, LeavesOnly}
use Rattle.disk_model.specs.inside.Moments.{goes_on, started, weakens}
use Rattle.worksheet.specs.declared.op.Op.{Op}
use Rattle.worksheet.specs.Ops.{sheet_of}
use Rattle.recovery.specs.Sheets.{IsSheetImage, StoreView}
use Rattle.std.specs.Io.KnownBytes.{Appends}
use Rattle.check_report.specs.declared.report.ReportFormat.TheVariants as format
use Rattle.check_report.specs.Reports.{Case, report_front}
use Rattle.sheet_check.specs.Accept.{Filing, ReportedAfter, EachReported, accepted, filing}
use Rattle.sheet_check.specs.Kept.{HoldsAll, IsAmong, Stores}

-- an image with some of the first of these has some of the first of these and others
longer : (ops rest ones : List Op) (i : Image) → IsAmong ops rest i → IsAmong ops (rest ++ ones) i
longer ops rest ones i among =
    record { done = among.done; rest = among.rest ++ ones; split = ap (λ (l : List Op). l ++ ones) among.split ∙ append_assoc among.done among.rest ones; image = among.image }

joined : (ops put rest done : List Op) → (ops ++ (put ++ rest)) ++ done ≡ (ops ++ put) ++ (rest ++ done)
joined ops put rest done =
    append_assoc ops (put ++ rest) done ∙ (ap (λ (l : List Op). ops ++ l) (append_assoc put rest done) ∙ sym (append_assoc ops put (rest ++ done)))

-- the last of those that it has for certain may count among these
deeper : (ops put rest ones : List Op) (i : Image) → IsAmong (ops ++ (put ++ rest)) ones i → IsAmong (ops ++ put) (rest ++ ones) i
deeper ops put rest ones i among = record {
  done = rest ++ among.done;
  rest = among.rest;
  split = ap (λ (l : List Op). rest ++ l) among.split ∙ sym (append_assoc rest among.done among.rest);
  image = subst (λ (os : List Op). IsSheetImage (sheet_of os) i) (joined ops put rest among.done) among.image;
}

module _ (held : Option (List ℕ) → DiskView → Type 0) (text : Option (List ℕ)) (ops : List Op) (before mid after : DiskView) (put ones : List Op)
    (step : InModel before (LeavesOnly (IsAmong (ops ++ put) ones) mid.history after.history)) where
  one_stays : (front : List Case) (one : Case) → ReportedAfter (filing held ops before mid) text put front one → ReportedAfter (filing held ops before after) text (put ++ ones) front one
  one_stays front one was =
      let first = accepted (front ++ one ∷ []) in
      record {
        printed = was.printed;
        disk = was.disk;
        begins = was.begins;
        held = was.held;
        rest = was.rest ++ ones;
        split = ap (λ (l : List Op). l ++ ones) was.split ∙ append_assoc first was.rest ones;
        since = λ keeps. goes_on (IsAmong (ops ++ first) (was.rest ++ ones)) was.disk.history mid.history after.history
            (weakens (IsAmong (ops ++ first) was.rest) (IsAmong (ops ++ first) (was.rest ++ ones)) was.disk.history mid.history (longer (ops ++ first) was.rest ones) (was.since keeps))
            (weakens (IsAmong (ops ++ put) ones) (IsAmong (ops ++ first) (was.rest ++ ones)) mid.history after.history
            (λ i among. deeper ops first was.rest ones i (subst (λ (l : List Op). IsAmong (ops ++ l) ones i) was.split among)) (step keeps));
      }

  -- what was reported stays on the disk while these are put
  pub reports_stay : (front cases : List Case) → EachReported (filing held ops before mid) text put front cases → EachReported (filing held ops before after) text (put ++ ones) front cases
  reports_stay front [] all = tt
  reports_stay front (one ∷ cases) all = (one_stays front one all.0, reports_stay (front ++ one ∷ []) cases all.1)

-- one case more
pub one_more : (x : Filing) (text : Option (List ℕ)) (put : List Op) (front cases : List Case) (one : Case) → EachReported x text put front cases
    → ReportedAfter x text put (front ++ cases) one → EachReported x text put front (cases ++ one ∷ [])
one_more x text put front [] one all last = (subst (λ (l : List Case). ReportedAfter x text put l one) (append-nil front) last, tt)
one_more x text put front (c ∷ cases) one all last =
    (all.0, one_more x text put (front ++ c ∷ []) cases one all.1 (subst (λ (l : List Case). ReportedAfter x text put l one) (sym (append_assoc front (c ∷ []) cases)) last))

-- a store as it is now, from its own disk on
pub stores_here : (ops more : List Op) (disk : DiskView) (store : StoreView) → Stores ops more disk store → Stores (ops ++ more) [] store.disk store
stores_here ops more disk store stores =
    let same : ops ++ more ≡ (ops ++ more) ++ [] = sym (append-nil (ops ++ more)) in
    let here : InModel store.disk (Leaves (IsSheetImage (sheet_of ((ops ++ more) ++ []))) store.disk.history.now) = λ keeps i image. subst (λ (os : List Op). IsSheetImage (sheet_of os) i) same
    (stores.disk.holds (subst IsTrue stores.disk.same.keeps_model keeps) i image) in
    record {
      still_open = stores.still_open;
      contents = stores.contents ∙ ap sheet_of same;
      disk = record {
        from = tt;
        same = record { room = refl; keeps_model = refl; later = omega arith };
        steady = refl;
        holds = here;
        moments = λ keeps. started (IsAmong (ops ++ more) []) store.disk.history (λ i image. record { done = []; rest = []; split = refl; image = here keeps i image });
      };
    }

-- A case is reported on a disk that has what is accepted of it.
pub reported_now : (held : Option (List ℕ) → DiskView → Type 0) (text printed : Option (List ℕ)) (ops : List Op) (before disk : DiskView) (cases : List Case) (one : Case)
    → Appends text printed (report_front format.Accepting cases) → held printed disk → HoldsAll ops (accepted (cases ++ one ∷ [])) before disk
    → ReportedAfter (filing held ops before disk) text (accepted (cases ++ one ∷ [])) cases one
reported_now held text printed ops before disk cases one begins stamped holds =
    let put = accepted (cases ++ one ∷ []) in
    record {
      printed = printed;
      disk = disk;
      begins = begins;
      held = stamped;
      rest = [];
      split = sym (append-nil put);
      since = λ keeps. started (IsAmong (ops ++ put) []) disk.history (λ i image. record {
        done = [];
        rest = [];
        split = refl;
        image = subst (λ (os : List Op). IsSheetImage (sheet_of os) i) (sym (append-nil (ops ++ put))) (holds.holds keeps i image);
      });
    }

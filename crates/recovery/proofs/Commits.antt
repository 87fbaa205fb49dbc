-- What a commit does, from what its parts do.
use Rattle.std.proofs.Common.{◌≡◌, ◌+◌, ℕ, length, sym, ap, ◌∙◌, subst, arith, IsTrue, Result}
use Rattle.disk_model.specs.Disk.{DiskView, InModel, LeavesOnly, Rises, SameDisk, bytes_on}
use Rattle.journal.specs.Kept.{OtherUntouched, other_of}
use Rattle.worksheet.specs.declared.op.Op.{Op}
use Rattle.recovery.specs.Code.{code_of}
use Rattle.recovery.specs.Sheets.{StoreView, SameStore, IsEither, IsStore, StandsWithOrWithout}
use Rattle.recovery.specs.Committed.{Adds, Breaks, CommitAnswers, CommitMoments, Commits}
use Rattle.recovery.specs.declared.fault.CommitFault.{CommitFault}
use Rattle.recovery.proofs.Images.{stays_either, stays_other}
use Rattle.recovery.proofs.Kept.{keeps_still, stays_kept}

-- a refusal before the first write
pub unchanged : (old new : StoreView) (o : Op) (result : Result Unit CommitFault) → IsStore old → SameStore old new → CommitAnswers old new o result → Commits old new o result
unchanged old new o result store same answer = record {
  disk = record {
    room = ap (λ (d : DiskView). d.room) same.disk;
    keeps_model = ap (λ (d : DiskView). d.keeps_model) same.disk;
    later = omega (arith, ap (λ (d : DiskView). d.faults) same.disk);
  };
  answer = answer;
  moments = λ model. record {
    sheets = λ opened. stays_either old.disk new.disk old.sheet.contents o same.disk (store.images model opened);
    payloads = λ ops kept. stays_kept old new o ops same kept;
    others = stays_other old.disk new.disk same.disk;
  };
  other = λ model. ap (λ (d : DiskView). other_of (bytes_on d)) same.disk;
}

-- memory that was made ready before an append changes nothing of what it does
pub breaks_from : (old mid new : StoreView) → SameStore old mid → Breaks mid new → Breaks old new
breaks_from old mid new same breaks = record {
  contents = breaks.contents ∙ same.contents;
  closed = breaks.closed;
  faults = subst (λ (d : DiskView). Rises d.faults new.disk.faults) same.disk breaks.faults;
}

module _ (old mid new : StoreView) (o : Op) (same : SameStore old mid) where
  still_model : IsTrue old.disk.keeps_model → IsTrue mid.disk.keeps_model
  still_model model = subst (λ (d : DiskView). IsTrue d.keeps_model) (sym same.disk) model

  pub adds_from : Adds mid new o → Adds old new o
  adds_from adds = record {
    still_open = adds.still_open;
    end = adds.end ∙ ap (λ (end : ℕ). end + 5 + length (code_of o)) same.end;
    faults = adds.faults ∙ ap (λ (d : DiskView). d.faults) same.disk;
    contents = λ ops is. adds.contents ops (same.contents ∙ is);
    kept = λ model ops kept. adds.kept (still_model model) ops (keeps_still old mid ops same kept);
    images = λ model. adds.images (still_model model);
    real = record {
      gathers = adds.real.gathers ∙ same.gathers;
      owed = λ gathers. adds.real.owed (same.gathers ∙ gathers) ∙ same.real;
      written = λ at_once. adds.real.written (same.gathers ∙ at_once);
    };
  }

  pub commits_from : (result : Result Unit CommitFault) → CommitAnswers old new o result → SameDisk mid.disk new.disk → InModel mid.disk (CommitMoments mid new o)
      → InModel mid.disk (other_of (bytes_on new.disk) ≡ other_of (bytes_on mid.disk)) → Commits old new o result
  commits_from result answer disk moments other = record {
    disk = subst (λ (d : DiskView). SameDisk d new.disk) same.disk disk;
    answer = answer;
    moments = λ model.
        let run = moments (still_model model) in
        record {
          sheets = λ opened ops is. subst (λ (d : DiskView). LeavesOnly (IsEither ops o) d.history new.disk.history) same.disk (run.sheets (same.closed ∙ opened) ops (same.contents ∙ is));
          payloads = λ ops kept. subst (λ (d : DiskView). LeavesOnly (StandsWithOrWithout ops o) d.history new.disk.history) same.disk (run.payloads ops (keeps_still old mid ops same kept));
          others = subst (λ (d : DiskView). LeavesOnly (OtherUntouched d.history.now) d.history new.disk.history) same.disk run.others;
        };
    other = λ model. subst (λ (d : DiskView). other_of (bytes_on new.disk) ≡ other_of (bytes_on d)) same.disk (other (still_model model));
  }

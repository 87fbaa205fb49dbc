-- Calls that read, one after another.
use Rattle.std.proofs.Common.{◌≡◌, ℕ, sym, ◌∙◌, subst, refl, arith, Result, IsTrue}
use Rattle.disk_model.specs.Disk.{DiskView, Image, IsImage, Called, InModel, Looks, SameDisk, Rises, content_of}
use Rattle.disk_model.specs.inside.Moments.{looks_on, started}
use Rattle.journal.specs.inside.Reads.{Reads}

-- no call yet
pub none_read : (v : DiskView) → Reads ⊥ v v
none_read v = record {
  same = record { room = refl; keeps_model = refl; later = omega arith };
  looks = λ model. record { content = refl; moments = started (IsImage v.history.now) v.history (λ c image. image) };
  faulty = λ no. absurd no;
  steady = λ no. refl;
}

pub keeps : (P : Type 0) (old new : DiskView) → Reads P old new → IsTrue old.keeps_model → IsTrue new.keeps_model
keeps P old new reads model = subst IsTrue (sym reads.same.keeps_model) model

-- calls that met no failure, and then others
pub reads_on : (P : Type 0) (old mid new : DiskView) → Reads ⊥ old mid → Reads P mid new → Reads P old new
reads_on P old mid new first second = record {
  same = record {
    room = second.same.room ∙ first.same.room;
    keeps_model = second.same.keeps_model ∙ first.same.keeps_model;
    later = omega (arith, first.same.later, second.same.later);
  };
  looks = λ model. looks_on old.history mid.history new.history (first.looks model) (second.looks (keeps ⊥ old mid first model));
  faulty = λ failed. subst (λ (n : ℕ). Rises n new.faults) (first.steady (λ no. no)) (second.faulty failed);
  steady = λ none. second.steady none ∙ first.steady (λ no. no);
}

-- no failure was met, and none is answered
pub unfailed : (P : Type 0) (old new : DiskView) → (P → ⊥) → Reads ⊥ old new → Reads P old new
unfailed P old new none reads = record {
  same = reads.same;
  looks = reads.looks;
  faulty = λ failed. absurd (none failed);
  steady = λ _. reads.steady (λ no. no);
}

-- calls that reported no failure
pub untroubled : (old new : DiskView) → SameDisk old new → InModel old (Looks old.history new.history) → new.faults ≡ old.faults → Reads ⊥ old new
untroubled old new same looks steady = record { same = same; looks = looks; faulty = λ no. absurd no; steady = λ _. steady }

-- one call that looks, and went well or not
pub looked_well : {T E : Type 0} (result : Result T E) (old new : DiskView) → Called result old new → new.faults ≡ old.faults → InModel old (Looks old.history new.history) → Reads ⊥ old new
looked_well result old new call steady looks = record {
  same = record { room = call.room; keeps_model = call.keeps_model; later = call.later };
  looks = looks;
  faulty = λ no. absurd no;
  steady = λ _. steady;
}

pub looked_ill : {T E : Type 0} (result : Result T E) (P : Type 0) (old new : DiskView) → P → Called result old new → Rises old.faults new.faults → InModel old (Looks old.history new.history) → Reads P old new
looked_ill result P old new failed call rises looks = record {
  same = record { room = call.room; keeps_model = call.keeps_model; later = call.later };
  looks = looks;
  faulty = λ _. rises;
  steady = λ none. absurd (none failed);
}

-- what is read stays the same
pub same_area : (P : Type 0) (old new : DiskView) → Reads P old new → IsTrue old.keeps_model → content_of new.history ≡ content_of old.history
same_area P old new reads model = (reads.looks model).content

-- and of the bytes before them
pub so_before : (Q : Image → Type 0) (P : Type 0) (old new : DiskView) → Reads P old new → InModel new (Q (content_of new.history)) → InModel old (Q (content_of old.history))
so_before Q P old new reads so model = subst Q (same_area P old new reads model) (so (keeps P old new reads model))

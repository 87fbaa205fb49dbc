-- One op more after those that a store put on its disk.
use Rattle.std.proofs.Common.{◌≡◌, ◌≤◌, inl, inr, ℕ, List, [], ◌∷◌, ◌++◌, length, refl, ap, sym, ◌∙◌, subst, append_assoc, append-nil, arith, IsTrue, true, false, None}
use Rattle.std.specs.Prelude.{Result, Ok, Err}
use Rattle.std.proofs.lemmas.Bool.Decides.{nat_tests}
use Rattle.disk_model.specs.Disk.{DiskView, Image, InModel, Leaves, LeavesOnly, Rises, SameDisk}
use Rattle.disk_model.specs.inside.Moments.{at_end, goes_on, weakens}
use Rattle.worksheet.specs.declared.op.Op.{Op}
use Rattle.worksheet.specs.declared.op.Op.TheVariants as op
use Rattle.worksheet.specs.Contents.{Contents}
use Rattle.worksheet.specs.Ops.{sheet_of}
use Rattle.worksheet.specs.Checks.{AllowedFrom, first_refusal, has_field}
use Rattle.worksheet.specs.Limits.{longest_kept_prompt}
use Rattle.block_tree.specs.Tree.{Tree}
use Rattle.recovery.specs.Committed.{Commits}
use Rattle.recovery.specs.Sheets.{IsEither, IsSheetImage, IsStore, SameStore, StoreView}
use Rattle.recovery.specs.declared.fault.CommitFault.{CommitFault}
use Rattle.recovery.specs.declared.fault.CommitFault.TheVariants as commits
use Rattle.sheet_check.specs.Kept.{PutsOne, HoldsAll, IsAmong, Stores}
use Rattle.sheet_check.specs.inside.Faults.{fault_for}

-- an answer with a short prompt to a field that there is
pub answer_allowed : (sheet : Contents) (id : ℕ) (prompt : List ℕ) (output : Tree) → has_field sheet id ≡ true → length prompt ≤ longest_kept_prompt → first_refusal sheet (op.Answer id prompt output) ≡ None
answer_allowed sheet id prompt output has short = rw has grind (arith, nat_tests)

same-trans : (a b c : DiskView) → SameDisk a b → SameDisk b c → SameDisk a c
same-trans a b c first second = record {
  room = second.room ∙ first.room;
  keeps_model = second.keeps_model ∙ first.keeps_model;
  later = omega (arith, first.later, second.later);
}

-- one op more is allowed after those
from_push : (ops more : List Op) (one : Op) → AllowedFrom ops more → first_refusal (sheet_of (ops ++ more)) one ≡ None → AllowedFrom ops (more ++ one ∷ [])
from_push ops [] one from allowed = (subst (λ (os : List Op). first_refusal (sheet_of os) one ≡ None) (append-nil ops) allowed, tt)
from_push ops (o ∷ more) one from allowed =
    (from.0, from_push (ops ++ o ∷ []) more one from.1 (subst (λ (os : List Op). first_refusal (sheet_of os) one ≡ None) (sym (append_assoc ops (o ∷ []) more)) allowed))

module _ (ops more : List Op) (one : Op) where
  either_among : (i : Image) → IsEither (ops ++ more) one i → IsAmong ops (more ++ one ∷ []) i
  either_among i (inl before) = record { done = more; rest = one ∷ []; split = refl; image = before }
  either_among i (inr following) = record {
    done = more ++ one ∷ [];
    rest = [];
    split = sym (append-nil (more ++ one ∷ []));
    image = subst (λ (os : List Op). IsSheetImage (sheet_of os) i) (append_assoc ops more (one ∷ [])) following;
  }

  earlier_among : (i : Image) → IsAmong ops more i → IsAmong ops (more ++ one ∷ []) i
  earlier_among i among = record {
    done = among.done;
    rest = among.rest ++ one ∷ [];
    split = ap (λ (os : List Op). os ++ one ∷ []) among.split ∙ append_assoc among.done among.rest (one ∷ []);
    image = among.image;
  }

  module _ (disk : DiskView) (old new : StoreView) (has : Stores ops more disk old) where
    still : IsTrue disk.keeps_model → IsTrue old.disk.keeps_model
    still model = subst IsTrue (sym has.disk.same.keeps_model) model

    module _ (u : Result Unit CommitFault) (commit : Commits old new one u) where
      either : IsTrue disk.keeps_model → LeavesOnly (IsEither (ops ++ more) one) old.disk.history new.disk.history
      either model = (commit.moments (still model)).sheets has.still_open (ops ++ more) has.contents

      moments-on : InModel disk (LeavesOnly (IsAmong ops (more ++ one ∷ [])) disk.history new.disk.history)
      moments-on model = goes_on (IsAmong ops (more ++ one ∷ [])) disk.history old.disk.history new.disk.history
          (weakens (IsAmong ops more) (IsAmong ops (more ++ one ∷ [])) disk.history old.disk.history earlier_among (has.disk.moments model))
          (weakens (IsEither (ops ++ more) one) (IsAmong ops (more ++ one ∷ [])) old.disk.history new.disk.history either_among (either model))

      same-on : SameDisk disk new.disk
      same-on = same-trans disk old.disk new.disk has.disk.same commit.disk

    unchanged : SameStore old new → Stores ops more disk new
    unchanged same = record {
      still_open = same.closed ∙ has.still_open;
      contents = same.contents ∙ has.contents;
      disk = subst (HoldsAll ops more disk) (sym same.disk) has.disk;
    }

    from-on : first_refusal old.sheet.contents one ≡ None → AllowedFrom ops (more ++ one ∷ [])
    from-on allowed = from_push ops more one has.disk.from (subst (λ (c : Contents). first_refusal c one ≡ None) has.contents allowed)

    pub put : first_refusal old.sheet.contents one ≡ None → Commits old new one (Ok tt) → Stores ops (more ++ one ∷ []) disk new
    put allowed commit =
        let adds = commit.answer.1 in
        let together = append_assoc ops more (one ∷ []) in
        let contents : new.sheet.contents ≡ sheet_of (ops ++ (more ++ one ∷ [])) = adds.contents (ops ++ more) has.contents ∙ ap sheet_of together in
        record {
          still_open = adds.still_open;
          contents = contents;
          disk = record {
            from = from-on allowed;
            same = same-on (Ok tt) commit;
            steady = adds.faults ∙ has.disk.steady;
            holds = λ model. subst (λ (c : Contents). Leaves (IsSheetImage c) new.disk.history.now) contents (adds.images (still model));
            moments = moments-on (Ok tt) commit;
          };
        }

    pub not_put : first_refusal old.sheet.contents one ≡ None → IsStore old → (why : CommitFault) → Commits old new one (Err why) → PutsOne ops more disk one new (Err (fault_for why))
    not_put allowed store (commits.Full back) commit = (
      unchanged commit.answer.3,
      record { store = old; is = store; still_open = has.still_open; place = commit.answer.1; on_it = sym commit.answer.3.disk },
    )
    not_put allowed store (commits.OutOfMemory back) commit = unchanged commit.answer.2
    not_put allowed store commits.Disk commit = record {
      from = from-on allowed;
      same = same-on (Err commits.Disk) commit;
      failed = subst (λ (n : ℕ). Rises n new.disk.faults) has.disk.steady commit.answer.1.faults;
      holds = λ model. at_end (IsEither (ops ++ more) one) old.disk.history new.disk.history (either (Err commits.Disk) commit model);
      moments = moments-on (Err commits.Disk) commit;
    }
    not_put allowed store commits.Closed commit = absurd (let no : true ≡ false = sym commit.answer.0 ∙ has.still_open in cc)

use Rattle.std.proofs.Common.{◌≡◌, ◌≤◌, length, refl, sym, subst, List, ℕ, None}
use Rattle.worksheet.specs.declared.op.Op.{Op}
use Rattle.worksheet.specs.declared.op.Op.TheVariants as op
use Rattle.worksheet.specs.Contents.{Contents}
use Rattle.worksheet.specs.Checks.{first_refusal}
use Rattle.journal.specs.Limits.{longest_payload}
use Rattle.recovery.specs.Code.{IsPayloadOf}
use Rattle.recovery.proofs.Unique.{one_op}
use Rattle.recovery.proofs.Allowed.{makes_more}
use Rattle.recovery.proofs.opening.take.Goals as goal

pub returns-in-Err-Refused-clause-refused : goal.returns-in-Err-Refused-clause-refused
returns-in-Err-Refused-clause-refused c = λ ops makes. (
  refl,
  λ o own next.
      let set = op.Set c.in-Some.id c.in-Some.input.now in
      let read = subst (λ (b : List ℕ). IsPayloadOf set b) c.as_slice.ensures c.in-Some.ensures in
      let same : o ≡ set = one_op o set c.args.payload.now.bytes own read in
      (rw c.in-Err-Refused.field-0-is at c.in-Err-Refused.ensures.refused) refl (subst (λ (x : Op). first_refusal c.args.sheet.now.contents x ≡ None) same (subst (λ (s : Contents). first_refusal s o ≡ None) (sym makes.is) next)),
)

pub returns-in-Ok-clause-taken : goal.returns-in-Ok-clause-taken
returns-in-Ok-clause-taken c = λ ops makes.
    let set = op.Set c.in-Some.id c.in-Some.input.now in
    let read = subst (λ (b : List ℕ). IsPayloadOf set b) c.as_slice.ensures c.in-Some.ensures in
    record {
      next = set;
      is = read.is;
      makes = makes_more ops set c.args.sheet.now.contents c.set.new.self.contents makes read.typed (subst (λ (b : List ℕ). length b ≤ longest_payload) read.is c.requires.1) c.in-Ok.ensures.allowed (c.in-Ok.ensures.ok ops makes.is);
    }

use Rattle.std.proofs.Common.{◌≡◌, refl, sym, ◌∙◌, subst, List, ℕ, None}
use Rattle.worksheet.specs.Contents.{Contents}
use Rattle.worksheet.specs.Checks.{first_refusal}
use Rattle.worksheet.specs.declared.op.Op.{Op}
use Rattle.recovery.specs.Code.{IsPayloadOf}
use Rattle.recovery.proofs.Unique.{one_op}
use Rattle.recovery.proofs.Images.{refuses, allows}
use Rattle.past.proofs.changes.op_of.Goals as goal

pub returns-then-is_err-clause-refused : goal.returns-then-is_err-clause-refused
returns-then-is_err-clause-refused c = λ ops makes. (
  refl,
  λ o own next.
      let read = subst (λ (b : List ℕ). IsPayloadOf c.in-Ok.op b) c.as_slice.ensures c.in-Ok.ensures.op in
      let same : o ≡ c.in-Ok.op = one_op o c.in-Ok.op c.args.payload.now.bytes own read in
      let allowed : first_refusal c.args.sheet.now.contents c.in-Ok.op ≡ None = subst (λ (x : Op). first_refusal c.args.sheet.now.contents x ≡ None) same (subst (λ (s : Contents). first_refusal s o ≡ None) (sym makes.is) next) in
      refuses c.check.result _ c.check.ensures (sym c.is_err.ensures.value ∙ c.if-is_err.true) allowed,
)

pub returns-clause-own : goal.returns-clause-own
returns-clause-own c = subst (λ (b : List ℕ). IsPayloadOf c.in-Ok.op b) c.as_slice.ensures c.in-Ok.ensures.op

pub returns-clause-allowed : goal.returns-clause-allowed
returns-clause-allowed c = allows c.check.result _ c.check.ensures (sym c.is_err.ensures.value ∙ c.if-is_err.false)

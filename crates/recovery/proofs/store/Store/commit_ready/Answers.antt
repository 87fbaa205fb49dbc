use Rattle.std.proofs.Common.{◌≡◌, ◌+◌, ℕ, length, List, sym, ◌∙◌, subst, false, Some, None, Option, IsTrue}
use Rattle.disk_model.specs.Disk.{InModel, LeavesOnly}
use Rattle.worksheet.specs.declared.op.Op.{Op}
use Rattle.worksheet.specs.Ops.{sheet_of}
use Rattle.worksheet.specs.Checks.{first_refusal}
use Rattle.journal.specs.Kept.{OtherUntouched}
use Rattle.recovery.specs.Code.{code_of}
use Rattle.recovery.specs.Sheets.{IsStore, StoreView, IsEither, KeepsOps, StandsWithOrWithout}
use Rattle.recovery.specs.declared.base.Base.{Base}
use Rattle.recovery.specs.inside.Base.{disk_in, disk_of, end_in, end_of_base, is_closed_store, IsStoreOf, store_on}
use Rattle.recovery.proofs.Images.{moments, others, committed, all_images, on_ok}
use Rattle.recovery.proofs.Kept.{is_store, payload_moments, keeps_more}
use Rattle.recovery.proofs.store.Store.commit_ready.Goals as goal

pub returns-in_err-result-clause-any_moment : goal.returns-in_err-result-clause-any_moment
returns-in_err-result-clause-any_moment g c =
    let view = g.D.Disk.view in
    let o = c.args.op in
    let sheet = c.self.inside.sheet.contents in
    let e : c.self.inside.base ≡ Some c.unwrap.result = sym c.take.ensures.value ∙ c.unwrap.ensures in
    let holds = subst (λ (b : Option (Base g.row.D.Denot)). IsStoreOf view b sheet) e c.self.invariant in
    let next = subst (λ (s : StoreView). first_refusal s.sheet.contents o ≡ None) (sym c.self.view_is) c.requires.allowed in
    let opened = subst (λ (b : Option (Base g.row.D.Denot)). is_closed_store b ≡ false) e (subst (λ (s : StoreView). s.closed ≡ false) (sym c.self.view_is) c.requires.fits.0) in
    subst (λ (s : StoreView). InModel s.disk ((ops : List Op) → s.sheet.contents ≡ sheet_of ops → LeavesOnly (IsEither ops o) s.disk.history (disk_of view c.with-base.result.0).history)) c.self.view_is
    (subst (λ (b : Option (Base g.row.D.Denot)). InModel (disk_in view b) ((ops : List Op) → sheet ≡ sheet_of ops → LeavesOnly (IsEither ops o) (disk_in view b).history (disk_of view c.with-base.result.0).history)) (sym e)
    (moments view c.unwrap.result sheet o c.args.frame holds c.requires.own c.requires.fits.1.0 next opened (disk_of view c.with-base.result.0).history c.with-base.ensures.any_moment))

pub invariant_of-self-2 : goal.invariant_of-self-2
invariant_of-self-2 g c =
    let view = g.D.Disk.view in
    let o = c.args.op in
    let sheet = c.self.inside.sheet.contents in
    let e : c.self.inside.base ≡ Some c.unwrap.result = sym c.take.ensures.value ∙ c.unwrap.ensures in
    let holds = subst (λ (b : Option (Base g.row.D.Denot)). IsStoreOf view b sheet) e c.self.invariant in
    let next = subst (λ (s : StoreView). first_refusal s.sheet.contents o ≡ None) (sym c.self.view_is) c.requires.allowed in
    let opened = subst (λ (b : Option (Base g.row.D.Denot)). is_closed_store b ≡ false) e (subst (λ (s : StoreView). s.closed ≡ false) (sym c.self.view_is) c.requires.fits.0) in
    committed view c.unwrap.result sheet o c.args.frame holds c.requires.own c.requires.fits.1.0 next opened c.with-base.result.0 c.apply.new.self.contents c.with-base.ensures.same
    (λ model payloads keeps. on_ok c.with-base.result.1 c.in_ok-result.field-0 c.in_ok-result.was (c.with-base.ensures.ok model payloads keeps)) c.in-Ok.ensures.ok c.with-base.ensures.owing

pub returns-clause-any_moment : goal.returns-clause-any_moment
returns-clause-any_moment g c =
    let view = g.D.Disk.view in
    let o = c.args.op in
    let sheet = c.self.inside.sheet.contents in
    let e : c.self.inside.base ≡ Some c.unwrap.result = sym c.take.ensures.value ∙ c.unwrap.ensures in
    let holds = subst (λ (b : Option (Base g.row.D.Denot)). IsStoreOf view b sheet) e c.self.invariant in
    let next = subst (λ (s : StoreView). first_refusal s.sheet.contents o ≡ None) (sym c.self.view_is) c.requires.allowed in
    let opened = subst (λ (b : Option (Base g.row.D.Denot)). is_closed_store b ≡ false) e (subst (λ (s : StoreView). s.closed ≡ false) (sym c.self.view_is) c.requires.fits.0) in
    subst (λ (s : StoreView). InModel s.disk ((ops : List Op) → s.sheet.contents ≡ sheet_of ops → LeavesOnly (IsEither ops o) s.disk.history (disk_of view c.with-base.result.0).history)) c.self.view_is
    (subst (λ (b : Option (Base g.row.D.Denot)). InModel (disk_in view b) ((ops : List Op) → sheet ≡ sheet_of ops → LeavesOnly (IsEither ops o) (disk_in view b).history (disk_of view c.with-base.result.0).history)) (sym e)
    (moments view c.unwrap.result sheet o c.args.frame holds c.requires.own c.requires.fits.1.0 next opened (disk_of view c.with-base.result.0).history c.with-base.ensures.any_moment))

pub returns-clause-acknowledged : goal.returns-clause-acknowledged
returns-clause-acknowledged g c = λ model.
    let view = g.D.Disk.view in
    let o = c.args.op in
    let sheet = c.self.inside.sheet.contents in
    let e : c.self.inside.base ≡ Some c.unwrap.result = sym c.take.ensures.value ∙ c.unwrap.ensures in
    let holds = subst (λ (b : Option (Base g.row.D.Denot)). IsStoreOf view b sheet) e c.self.invariant in
    let next = subst (λ (s : StoreView). first_refusal s.sheet.contents o ≡ None) (sym c.self.view_is) c.requires.allowed in
    let opened = subst (λ (b : Option (Base g.row.D.Denot)). is_closed_store b ≡ false) e (subst (λ (s : StoreView). s.closed ≡ false) (sym c.self.view_is) c.requires.fits.0) in
    let after = committed view c.unwrap.result sheet o c.args.frame holds c.requires.own c.requires.fits.1.0 next opened c.with-base.result.0 c.apply.new.self.contents c.with-base.ensures.same
    (λ model payloads keeps. on_ok c.with-base.result.1 c.in_ok-result.field-0 c.in_ok-result.was (c.with-base.ensures.ok model payloads keeps)) c.in-Ok.ensures.ok c.with-base.ensures.owing in
    let here = subst (λ (b : Option (Base g.row.D.Denot)). IsTrue (disk_in view b).keeps_model) e (subst (λ (s : StoreView). IsTrue s.disk.keeps_model) (sym c.self.view_is) model) in
    all_images view c.with-base.result.0 c.apply.new.self.contents
    (after.kept (on_ok c.with-base.result.1 c.in_ok-result.field-0 c.in_ok-result.was c.with-base.ensures.open) (subst IsTrue (sym c.with-base.ensures.same.keeps_model) here))

pub returns-in_err-result-clause-payloads : goal.returns-in_err-result-clause-payloads
returns-in_err-result-clause-payloads g c = λ model ops kept.
    let view = g.D.Disk.view in
    let o = c.args.op in
    let sheet = c.self.inside.sheet in
    let e : c.self.inside.base ≡ Some c.unwrap.result = sym c.take.ensures.value ∙ c.unwrap.ensures in
    let here = subst (λ (b : Option (Base g.row.D.Denot)). IsTrue (disk_in view b).keeps_model) e (subst (λ (s : StoreView). IsTrue s.disk.keeps_model) (sym c.self.view_is) model) in
    let before = subst (λ (b : Option (Base g.row.D.Denot)). KeepsOps (store_on view b sheet) ops) e (subst (λ (s : StoreView). KeepsOps s ops) (sym c.self.view_is) kept) in
    subst (λ (s : StoreView). LeavesOnly (StandsWithOrWithout ops o) s.disk.history (disk_of view c.with-base.result.0).history) c.self.view_is
    (subst (λ (b : Option (Base g.row.D.Denot)). LeavesOnly (StandsWithOrWithout ops o) (disk_in view b).history (disk_of view c.with-base.result.0).history) (sym e)
    (payload_moments view c.unwrap.result sheet o c.args.frame c.requires.own (disk_of view c.with-base.result.0).history c.with-base.ensures.any_moment here ops before))

pub returns-clause-payloads : goal.returns-clause-payloads
returns-clause-payloads g c = λ model ops kept.
    let view = g.D.Disk.view in
    let o = c.args.op in
    let sheet = c.self.inside.sheet in
    let e : c.self.inside.base ≡ Some c.unwrap.result = sym c.take.ensures.value ∙ c.unwrap.ensures in
    let here = subst (λ (b : Option (Base g.row.D.Denot)). IsTrue (disk_in view b).keeps_model) e (subst (λ (s : StoreView). IsTrue s.disk.keeps_model) (sym c.self.view_is) model) in
    let before = subst (λ (b : Option (Base g.row.D.Denot)). KeepsOps (store_on view b sheet) ops) e (subst (λ (s : StoreView). KeepsOps s ops) (sym c.self.view_is) kept) in
    subst (λ (s : StoreView). LeavesOnly (StandsWithOrWithout ops o) s.disk.history (disk_of view c.with-base.result.0).history) c.self.view_is
    (subst (λ (b : Option (Base g.row.D.Denot)). LeavesOnly (StandsWithOrWithout ops o) (disk_in view b).history (disk_of view c.with-base.result.0).history) (sym e)
    (payload_moments view c.unwrap.result sheet o c.args.frame c.requires.own (disk_of view c.with-base.result.0).history c.with-base.ensures.any_moment here ops before))

pub returns-clause-kept : goal.returns-clause-kept
returns-clause-kept g c = λ model ops kept.
    let view = g.D.Disk.view in
    let o = c.args.op in
    let sheet = c.self.inside.sheet in
    let e : c.self.inside.base ≡ Some c.unwrap.result = sym c.take.ensures.value ∙ c.unwrap.ensures in
    let next = subst (λ (s : StoreView). first_refusal s.sheet.contents o ≡ None) (sym c.self.view_is) c.requires.allowed in
    let here = subst (λ (b : Option (Base g.row.D.Denot)). IsTrue (disk_in view b).keeps_model) e (subst (λ (s : StoreView). IsTrue s.disk.keeps_model) (sym c.self.view_is) model) in
    let before = subst (λ (b : Option (Base g.row.D.Denot)). KeepsOps (store_on view b sheet) ops) e (subst (λ (s : StoreView). KeepsOps s ops) (sym c.self.view_is) kept) in
    keeps_more view c.unwrap.result sheet o c.args.frame c.requires.own c.with-base.result.0 c.apply.new.self c.requires.fits.1.0 next
    (on_ok c.with-base.result.1 c.in_ok-result.field-0 c.in_ok-result.was c.with-base.ensures.open)
    (λ model payloads keeps. on_ok c.with-base.result.1 c.in_ok-result.field-0 c.in_ok-result.was (c.with-base.ensures.ok model payloads keeps)) c.in-Ok.ensures.ok here ops before

pub returns-clause-ends : goal.returns-clause-ends
returns-clause-ends g c =
    let view = g.D.Disk.view in
    let o = c.args.op in
    let sheet = c.self.inside.sheet in
    let e : c.self.inside.base ≡ Some c.unwrap.result = sym c.take.ensures.value ∙ c.unwrap.ensures in
    let new = end_in c.with-base.result.0 in
    let ends = on_ok c.with-base.result.1 c.in_ok-result.field-0 c.in_ok-result.was c.with-base.ensures.ends in
    subst (λ (s : StoreView). new ≡ s.end + 5 + length (code_of o)) c.self.view_is
    (subst (λ (b : Option (Base g.row.D.Denot)). new ≡ end_of_base b + 5 + length (code_of o)) (sym e)
    (subst (λ (l : List ℕ). new ≡ end_in c.unwrap.result + 5 + length l) c.requires.own.is ends))

pub returns-in_err-result-clause-others : goal.returns-in_err-result-clause-others
returns-in_err-result-clause-others g c =
    let view = g.D.Disk.view in
    let o = c.args.op in
    let sheet = c.self.inside.sheet.contents in
    let e : c.self.inside.base ≡ Some c.unwrap.result = sym c.take.ensures.value ∙ c.unwrap.ensures in
    let holds = subst (λ (b : Option (Base g.row.D.Denot)). IsStoreOf view b sheet) e c.self.invariant in
    let next = subst (λ (s : StoreView). first_refusal s.sheet.contents o ≡ None) (sym c.self.view_is) c.requires.allowed in
    let opened = subst (λ (b : Option (Base g.row.D.Denot)). is_closed_store b ≡ false) e (subst (λ (s : StoreView). s.closed ≡ false) (sym c.self.view_is) c.requires.fits.0) in
    subst (λ (s : StoreView). InModel s.disk (LeavesOnly (OtherUntouched s.disk.history.now) s.disk.history (disk_of view c.with-base.result.0).history)) c.self.view_is
    (subst (λ (b : Option (Base g.row.D.Denot)). InModel (disk_in view b) (LeavesOnly (OtherUntouched (disk_in view b).history.now) (disk_in view b).history (disk_of view c.with-base.result.0).history)) (sym e)
    (others view c.unwrap.result sheet o c.args.frame holds c.requires.own c.requires.fits.1.0 next opened (disk_of view c.with-base.result.0).history c.with-base.ensures.any_moment))

pub returns-clause-others : goal.returns-clause-others
returns-clause-others g c =
    let view = g.D.Disk.view in
    let o = c.args.op in
    let sheet = c.self.inside.sheet.contents in
    let e : c.self.inside.base ≡ Some c.unwrap.result = sym c.take.ensures.value ∙ c.unwrap.ensures in
    let holds = subst (λ (b : Option (Base g.row.D.Denot)). IsStoreOf view b sheet) e c.self.invariant in
    let next = subst (λ (s : StoreView). first_refusal s.sheet.contents o ≡ None) (sym c.self.view_is) c.requires.allowed in
    let opened = subst (λ (b : Option (Base g.row.D.Denot)). is_closed_store b ≡ false) e (subst (λ (s : StoreView). s.closed ≡ false) (sym c.self.view_is) c.requires.fits.0) in
    subst (λ (s : StoreView). InModel s.disk (LeavesOnly (OtherUntouched s.disk.history.now) s.disk.history (disk_of view c.with-base.result.0).history)) c.self.view_is
    (subst (λ (b : Option (Base g.row.D.Denot)). InModel (disk_in view b) (LeavesOnly (OtherUntouched (disk_in view b).history.now) (disk_in view b).history (disk_of view c.with-base.result.0).history)) (sym e)
    (others view c.unwrap.result sheet o c.args.frame holds c.requires.own c.requires.fits.1.0 next opened (disk_of view c.with-base.result.0).history c.with-base.ensures.any_moment))

pub returns-in_err-result-clause-store : goal.returns-in_err-result-clause-store
returns-in_err-result-clause-store g c = subst IsStore c.self.view_is (is_store g.D.Disk.view c.self.inside.base c.self.inside.sheet c.self.invariant)

pub returns-clause-store : goal.returns-clause-store
returns-clause-store g c = subst IsStore c.self.view_is (is_store g.D.Disk.view c.self.inside.base c.self.inside.sheet c.self.invariant)

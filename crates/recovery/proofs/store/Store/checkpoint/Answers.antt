use Rattle.std.proofs.Common.{◌≡◌, ◌+◌, ◌≤◌, ℕ, List, [], min, refl, sym, ◌∙◌, subst, false, Some, Option, vec_capacity}
use Rattle.disk_model.specs.Disk.{InModel, LeavesOnly}
use Rattle.journal.specs.Limits.{batch_len, longest_payload}
use Rattle.journal.specs.Sources.{HoldsEach}
use Rattle.worksheet.specs.Rewrite.{rewrite_of}
use Rattle.recovery.specs.Checkpointed.{CheckpointAnswers, HasRoomAgain}
use Rattle.recovery.specs.Sheets.{codes_of, IsSheetImage, IsStore, StoreView}
use Rattle.recovery.specs.declared.base.Base.{Base}
use Rattle.recovery.specs.inside.Base.{disk_in, disk_of, is_closed_store, owed_in, IsStoreOf, store_on}
use Rattle.recovery.proofs.Images.{made_in}
use Rattle.recovery.proofs.Kept.{is_store}
use Rattle.recovery.proofs.Lengths.{next_some, numbers_apart, records_again, rewrites_are_short}
use Rattle.recovery.proofs.Renewing.{answered, same_sheet_moments, stays_same, still_base}
use Rattle.recovery.proofs.Sourcing.{holds_each}
use Rattle.recovery.proofs.store.Store.checkpoint.Goals as goal

pub again_of-requires-clause-some : goal.again_of-requires-clause-some
again_of-requires-clause-some g c =
    let made = made_in g.D.Disk.view c.self.inside.base c.self.inside.sheet.contents c.self.invariant in
    next_some made.0 c.self.inside.sheet.contents made.1

pub again_of-requires-clause-apart : goal.again_of-requires-clause-apart
again_of-requires-clause-apart g c =
    let made = made_in g.D.Disk.view c.self.inside.base c.self.inside.sheet.contents c.self.invariant in
    numbers_apart made.0 c.self.inside.sheet.contents made.1

pub again_of-requires-clause-records : goal.again_of-requires-clause-records
again_of-requires-clause-records g c =
    let made = made_in g.D.Disk.view c.self.inside.base c.self.inside.sheet.contents c.self.invariant in
    records_again made.0 c.self.inside.sheet.contents made.1

pub len_again-requires-clause-some : goal.len_again-requires-clause-some
len_again-requires-clause-some g c =
    let made = made_in g.D.Disk.view c.self.inside.base c.self.inside.sheet.contents c.self.invariant in
    next_some made.0 c.self.inside.sheet.contents made.1

pub len_again-requires-clause-records : goal.len_again-requires-clause-records
len_again-requires-clause-records g c =
    let made = made_in g.D.Disk.view c.self.inside.base c.self.inside.sheet.contents c.self.invariant in
    records_again made.0 c.self.inside.sheet.contents made.1

pub returns-in_default-len_again-clause-any_moment : goal.returns-in_default-len_again-clause-any_moment
returns-in_default-len_again-clause-any_moment g c = λ model opened.
    stays_same c.args.self.now (subst IsStore c.self.view_is (is_store g.D.Disk.view c.self.inside.base c.self.inside.sheet c.self.invariant)) opened model

pub returns-in-Err-clause-any_moment : goal.returns-in-Err-clause-any_moment
returns-in-Err-clause-any_moment g c = λ model opened.
    stays_same c.args.self.now (subst IsStore c.self.view_is (is_store g.D.Disk.view c.self.inside.base c.self.inside.sheet c.self.invariant)) opened model

pub returns-in-Err-batch_of-clause-any_moment : goal.returns-in-Err-batch_of-clause-any_moment
returns-in-Err-batch_of-clause-any_moment g c = λ model opened.
    stays_same c.args.self.now (subst IsStore c.self.view_is (is_store g.D.Disk.view c.self.inside.base c.self.inside.sheet c.self.invariant)) opened model

pub returns-in-Err-clause-store : goal.returns-in-Err-clause-store
returns-in-Err-clause-store g c = subst IsStore c.self.view_is (is_store g.D.Disk.view c.self.inside.base c.self.inside.sheet c.self.invariant)

pub returns-in-Err-batch_of-clause-store : goal.returns-in-Err-batch_of-clause-store
returns-in-Err-batch_of-clause-store g c = subst IsStore c.self.view_is (is_store g.D.Disk.view c.self.inside.base c.self.inside.sheet c.self.invariant)

pub returns-clause-store : goal.returns-clause-store
returns-clause-store g c = subst IsStore c.self.view_is (is_store g.D.Disk.view c.self.inside.base c.self.inside.sheet c.self.invariant)

pub again-renewed-requires-clause-memory : goal.again-renewed-requires-clause-memory
again-renewed-requires-clause-memory g c =
    let sheet = c.self.inside.sheet.contents in
    let made = made_in g.D.Disk.view c.self.inside.base sheet c.self.invariant in
    let capacity = vec_capacity c.in-Ok-batch_of.batch in
    subst (λ (l : List (List ℕ)). HoldsEach capacity l) (sym c.in-Ok.ensures.ok)
    (holds_each capacity (codes_of (rewrite_of sheet)) (rewrites_are_short made.0 sheet made.1)
    (subst (λ (n : ℕ). batch_len + 6 + min n longest_payload ≤ capacity) c.in-Some-len_again.ensures.len c.in-Ok-batch_of.ensures))

pub invariant_of-self : goal.invariant_of-self
invariant_of-self g c =
    let view = g.D.Disk.view in
    let sheet = c.self.inside.sheet in
    let e : c.self.inside.base ≡ Some c.unwrap.result = sym c.take.ensures.value ∙ c.unwrap.ensures in
    let holds = subst (λ (b : Option (Base g.row.D.Denot)). IsStoreOf view b sheet.contents) e c.self.invariant in
    let opened = subst (λ (b : Option (Base g.row.D.Denot)). is_closed_store b ≡ false) (sym c.in-Some.is ∙ e) (sym c.is_closed.ensures ∙ c.if-is_closed.false) in
    still_base view c.unwrap.result c.again-renewed.result.0 sheet c.in-Ok.again holds opened c.in-Ok.ensures.ok c.in-Ok.ensures.typed c.again-renewed.ensures.same c.again-renewed.ensures.owing c.again-renewed.result.1 c.again-renewed.ensures.answers

pub returns-clause-answers : goal.returns-clause-answers
returns-clause-answers g c =
    let view = g.D.Disk.view in
    let sheet = c.self.inside.sheet in
    let e : c.self.inside.base ≡ Some c.unwrap.result = sym c.take.ensures.value ∙ c.unwrap.ensures in
    let holds = subst (λ (b : Option (Base g.row.D.Denot)). IsStoreOf view b sheet.contents) e c.self.invariant in
    let opened = subst (λ (b : Option (Base g.row.D.Denot)). is_closed_store b ≡ false) (sym c.in-Some.is ∙ e) (sym c.is_closed.ensures ∙ c.if-is_closed.false) in
    let here : HasRoomAgain (disk_of view c.in-Some.base).room sheet.contents = subst (λ (n : ℕ). HasRoomAgain n sheet.contents) c.room.ensures.room (c.in-Some-len_again.ensures.room.0 refl) in
    let room = subst (λ (b : Option (Base g.row.D.Denot)). HasRoomAgain (disk_in view b).room sheet.contents) (sym c.in-Some.is ∙ e) here in
    subst (λ (s : StoreView). CheckpointAnswers s (store_on view (Some c.again-renewed.result.0) sheet) c.again-renewed.result.1) c.self.view_is
    (subst (λ (b : Option (Base g.row.D.Denot)). CheckpointAnswers (store_on view b sheet) (store_on view (Some c.again-renewed.result.0) sheet) c.again-renewed.result.1) (sym e)
    (answered view c.unwrap.result c.again-renewed.result.0 sheet c.in-Ok.again holds opened c.in-Ok.ensures.ok c.in-Ok.ensures.typed c.again-renewed.ensures.same c.again-renewed.ensures.owing room c.again-renewed.result.1 c.again-renewed.ensures.answers))

pub returns-clause-any_moment : goal.returns-clause-any_moment
returns-clause-any_moment g c = λ model _.
    let view = g.D.Disk.view in
    let sheet = c.self.inside.sheet in
    let e : c.self.inside.base ≡ Some c.unwrap.result = sym c.take.ensures.value ∙ c.unwrap.ensures in
    let holds = subst (λ (b : Option (Base g.row.D.Denot)). IsStoreOf view b sheet.contents) e c.self.invariant in
    let opened = subst (λ (b : Option (Base g.row.D.Denot)). is_closed_store b ≡ false) (sym c.in-Some.is ∙ e) (sym c.is_closed.ensures ∙ c.if-is_closed.false) in
    let run = subst (λ (s : StoreView). InModel s.disk (LeavesOnly (IsSheetImage s.sheet.contents) s.disk.history (disk_of view c.again-renewed.result.0).history)) c.self.view_is
    (subst (λ (b : Option (Base g.row.D.Denot)). InModel (disk_in view b) (LeavesOnly (IsSheetImage sheet.contents) (disk_in view b).history (disk_of view c.again-renewed.result.0).history)) (sym e)
    (same_sheet_moments view c.unwrap.result c.again-renewed.result.0 sheet c.in-Ok.again holds opened c.in-Ok.ensures.ok c.in-Ok.ensures.typed c.again-renewed.ensures.same c.again-renewed.ensures.owing c.again-renewed.ensures.any_moment)) in
    run model

pub returns-in_default-len_again-clause-store : goal.returns-in_default-len_again-clause-store
returns-in_default-len_again-clause-store g c = subst IsStore c.self.view_is (is_store g.D.Disk.view c.self.inside.base c.self.inside.sheet c.self.invariant)

pub again-renewed-requires-clause-flushed : goal.again-renewed-requires-clause-flushed
again-renewed-requires-clause-flushed g c =
    let e : c.self.inside.base ≡ Some c.unwrap.result = sym c.take.ensures.value ∙ c.unwrap.ensures in
    subst (λ (b : Option (Base g.row.D.Denot)). owed_in b ≡ []) (sym c.in-Some.is ∙ e) (c.owes.ensures c.if-owes.false)

pub returns-then-owes-clause-any_moment : goal.returns-then-owes-clause-any_moment
returns-then-owes-clause-any_moment g c = λ model opened.
    stays_same c.args.self.now (subst IsStore c.self.view_is (is_store g.D.Disk.view c.self.inside.base c.self.inside.sheet c.self.invariant)) opened model

pub returns-then-owes-clause-store : goal.returns-then-owes-clause-store
returns-then-owes-clause-store g c = subst IsStore c.self.view_is (is_store g.D.Disk.view c.self.inside.base c.self.inside.sheet c.self.invariant)

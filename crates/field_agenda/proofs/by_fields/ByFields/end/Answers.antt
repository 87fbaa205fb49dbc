use Rattle.std.proofs.Common.{◌∙◌, ◌≤◌, ◌^◌, List, ℕ, ap, length, refl, subst, sym}
use Rattle.std.specs.Prelude.{Option}
use Rattle.worksheet.specs.Contents.{Contents}
use Rattle.evaluation.specs.Meant.{evaluation_counts, stop_field}
use Rattle.field_agenda.specs.declared.stage.Stage.TheVariants as stage
use Rattle.field_agenda.specs.Says.{ends_with, too_many_fields}
use Rattle.field_agenda.specs.Standing.{at_stage}
use Rattle.field_agenda.proofs.by_fields.ByFields.end.Goals as goal

pub returns-then-not-has_few_fields : goal.returns-then-not-has_few_fields
returns-then-not-has_few_fields g c = λ w stopped h here.
    too_many_fields (subst (λ (x : Contents). 2 ^ 31 ≤ length x.fields) (c.sheet-sheet.ensures.stands w h) (c.has_few_fields.ensures.no c.if-not-has_few_fields.true)) refl refl

pub returns : goal.returns
returns g c = λ w stopped h here.
    let a = c.args.self.now in
    let s = c.sheet-sheet.ensures.stands w h in
    let at = c.stop_field-stopped_after.ensures ∙ ap (λ (x : Contents). stop_field a.plan x.fields a.stand) s ∙ sym here.is in
    ends_with c.counts_of-counts.result
    (c.counts_of-counts.ensures ∙ ap (λ (l : List ℕ). evaluation_counts a.plan (length l) c.sheet-sheet.result.now.contents a.stand) c.as_slice-all.ensures
    ∙ ap (λ (x : Contents). evaluation_counts a.plan (length a.ids) x a.stand) s) refl
    (ap (λ (o : Option ℕ). at_stage a (stage.Counted (record { stopped_after = o; counts = c.counts_of-counts.result }))) at)

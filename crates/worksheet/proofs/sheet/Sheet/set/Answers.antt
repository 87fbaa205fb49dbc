use Rattle.std.proofs.Common.{◌≡◌, ap, sym, ◌∙◌, subst, map, None, List, ℕ}
use Rattle.worksheet.specs.declared.op.Op.TheVariants as op
use Rattle.worksheet.specs.declared.field.Field.{Field}
use Rattle.worksheet.specs.Contents.{Contents, SheetView}
use Rattle.worksheet.specs.Edits.{HasNumbersApart, at_field, contents_with, edited, with_input}
use Rattle.worksheet.specs.Ops.{sheet_of}
use Rattle.worksheet.specs.Checks.{first_refusal}
use Rattle.worksheet.specs.inside.Entries.{shown}
use Rattle.worksheet.specs.inside.SheetInside.{contents_of}
use Rattle.worksheet.proofs.Setting.{set_allowed}
use Rattle.worksheet.proofs.SoundLaws.{IsSound-edited}
use Rattle.worksheet.proofs.SheetLaws.{sheet_of-push}
use Rattle.worksheet.proofs.sheet.Sheet.set.Goals as goal

pub invariant_of-self : goal.invariant_of-self
invariant_of-self c =
    let o = op.Set c.args.id c.args.input.now in
    let there = sym c.has_field.ensures ∙ c.if-not-has_field.false in
    let allowed = set_allowed (contents_of c.self.inside) c.args.id c.args.input.now there c.in-Some.ensures.some.1 in
    let text = c.in_ok-text.ensures ∙ c.in-Some.ensures.some.0 in
    let made = c.set_input.ensures.made ∙ ap (λ (t : List ℕ). map (at_field c.args.id (with_input t)) (shown c.self.inside.fields.entries)) text in
    let now = ap (λ (fields : List Field). contents_with fields (shown c.self.inside.sessions.entries) c.self.inside.next) made in
    record {
      sound = subst (λ (s : Contents). HasNumbersApart s) (sym now) (IsSound-edited (contents_of c.self.inside) o allowed c.self.invariant.sound);
      fields = c.set_input.ensures.fields;
      sessions = c.self.invariant.sessions;
    }

pub returns-clause-ok : goal.returns-clause-ok
returns-clause-ok c = λ ops h.
    let o = op.Set c.args.id c.args.input.now in
    let there = sym c.has_field.ensures ∙ c.if-not-has_field.false in
    let allowed = set_allowed (contents_of c.self.inside) c.args.id c.args.input.now there c.in-Some.ensures.some.1 in
    let text = c.in_ok-text.ensures ∙ c.in-Some.ensures.some.0 in
    let made = c.set_input.ensures.made ∙ ap (λ (t : List ℕ). map (at_field c.args.id (with_input t)) (shown c.self.inside.fields.entries)) text in
    let now = ap (λ (fields : List Field). contents_with fields (shown c.self.inside.sessions.entries) c.self.inside.next) made in
    let before : contents_of c.self.inside ≡ sheet_of ops = ap (λ (held : SheetView). held.contents) c.self.view_is ∙ h in
    let sound : HasNumbersApart (sheet_of ops) = subst (λ (s : Contents). HasNumbersApart s) before c.self.invariant.sound in
    let next = subst (λ (s : Contents). first_refusal s o ≡ None) before allowed in
    now ∙ ap (λ (s : Contents). edited s o) before ∙ sym (sheet_of-push ops o sound next)

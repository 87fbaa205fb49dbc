use Rattle.std.proofs.Common.{◌≡◌, ap, sym, ◌∙◌, subst, None}
use Rattle.worksheet.specs.Contents.{Contents, SheetView}
use Rattle.worksheet.specs.Edits.{HasNumbersApart, edited}
use Rattle.worksheet.specs.Ops.{sheet_of}
use Rattle.worksheet.specs.Checks.{first_refusal}
use Rattle.worksheet.specs.inside.SheetInside.{contents_of}
use Rattle.worksheet.proofs.SoundLaws.{IsSound-edited}
use Rattle.worksheet.proofs.SheetLaws.{sheet_of-push}
use Rattle.worksheet.proofs.sheet.Sheet.apply.Goals as goal

pub invariant_of-self : goal.invariant_of-self
invariant_of-self c =
    let here : contents_of c.self.inside ≡ c.args.self.now.contents = ap (λ (held : SheetView). held.contents) c.self.view_is ∙ c.make_room.ensures.same in
    let allowed = subst (λ (s : Contents). first_refusal s c.args.op ≡ None) (sym here) c.requires in
    record {
      sound = subst (λ (s : Contents). HasNumbersApart s) (sym c.carry_out.ensures.edited) (IsSound-edited (contents_of c.self.inside) c.args.op allowed c.self.invariant.sound);
      fields = c.carry_out.ensures.fields;
      sessions = c.carry_out.ensures.sessions;
    }

pub returns-clause-ok : goal.returns-clause-ok
returns-clause-ok c = λ ops h.
    let o = c.args.op in
    let before : contents_of c.self.inside ≡ sheet_of ops = ap (λ (held : SheetView). held.contents) c.self.view_is ∙ c.make_room.ensures.same ∙ h in
    let sound : HasNumbersApart (sheet_of ops) = subst (λ (s : Contents). HasNumbersApart s) before c.self.invariant.sound in
    let allowed = subst (λ (s : Contents). first_refusal s o ≡ None) h c.requires in
    c.carry_out.ensures.edited ∙ ap (λ (s : Contents). edited s o) before ∙ sym (sheet_of-push ops o sound allowed)

use Rattle.std.proofs.Common.{◌≡◌, rules, ap, sym, ◌∙◌, subst, List, ℕ, ◌∷◌}
use Rattle.worksheet.specs.declared.op.Op.TheVariants as op
use Rattle.meta_format.specs.Canonical.{canonical}
use Rattle.recovery.specs.Code.{IsPayloadOf}
use Rattle.recovery.specs.inside.Plain.{plain_block}
use Rattle.recovery.proofs.Sound.{answer_sound}
use Rattle.recovery.proofs.plain.plain_answer_of.Goals as goal

pub returns : goal.returns
returns c =
    let block : c.in-Some-2.output ≡ plain_block c.in-Some.name.now c.in-Some.text.now = rw c.in-Some-2.is at c.in_ok-output.ensures in
    let spelled = c.in-Some.ensures ∙ ap canonical (sym block) in
    subst (λ (prompt : List ℕ). IsPayloadOf (op.Answer c.in-Ok.id prompt c.in-Some-2.output) (7 ∷ c.args.bytes.now)) (sym c.in_ok-prompt.ensures)
    (answer_sound c.args.bytes.now c.in-Ok.rest.now c.in-Ok.prompt.now c.in-Ok.id c.in-Some-2.output (search rules) c.in-Ok.ensures.read spelled (search rules))

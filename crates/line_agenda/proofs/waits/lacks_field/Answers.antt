use Rattle.std.proofs.Common.{◌∙◌, ap, not}
use Rattle.std.specs.Prelude.{Option, is_some}
use Rattle.worksheet.specs.Checks.{field_in}
use Rattle.worksheet.specs.declared.field.Field.{Field}
use Rattle.line_agenda.proofs.waits.lacks_field.Goals as goal

pub returns-in-None : goal.returns-in-None
returns-in-None g c = λ w h. ap (λ (found : Option Field). not (is_some found)) (c.in-None.ensures ∙ ap (λ s. field_in s.fields c.args.id) (c.sheet.ensures.stands w h))

pub returns-in-Some : goal.returns-in-Some
returns-in-Some g c = λ w h. ap (λ (found : Option Field). not (is_some found)) (c.in-Some.ensures ∙ ap (λ s. field_in s.fields c.args.id) (c.sheet.ensures.stands w h))

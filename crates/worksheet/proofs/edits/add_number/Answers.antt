use Rattle.std.proofs.Common.{◌∙◌, ◌++◌, ◌∷◌, [], ap, nat_eq, Option}
use Rattle.indexmap.proofs.CallerLemmas.{insert_entry-new}
use Rattle.worksheet.specs.declared.field.Field.{Field}
use Rattle.worksheet.proofs.edits.add_number.Goals as goal

pub returns-in-Ok-clause-ok : goal.returns-in-Ok-clause-ok
returns-in-Ok-clause-ok c =
    c.in-Ok.ensures.entries ∙ insert_entry-new nat_eq c.args.fields.now c.args.number c.in_ok-slot.slot c.requires
    ∙ ap (λ (o : Option Field). c.args.fields.now.entries ++ (c.args.number, o) ∷ []) c.in_ok-slot.ensures

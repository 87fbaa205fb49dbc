use Rattle.std.proofs.Common.{◌∙◌, ap}
use Rattle.worksheet.specs.declared.field.Field.{Field}
use Rattle.worksheet.proofs.Standing.{gone}
use Rattle.worksheet.specs.inside.Entries.{shown}
use Rattle.worksheet.proofs.EntryLaws.{shown-remove, Fits-remove}
use Rattle.worksheet.proofs.edits.remove_field.Goals as goal

pub returns-clause-made : goal.returns-clause-made
returns-clause-made c = ap shown c.shift_remove_index.ensures.entries ∙ shown-remove (λ (f : Field). f.id) c.args.fields.now.entries c.place_of-at.result c.requires.fields c.place_of-at.ensures.within
    ∙ gone (shown c.args.fields.now.entries) c.args.id c.place_of-at.result c.requires.apart c.requires.there c.place_of-at.ensures.within c.place_of-at.ensures.found

pub returns-clause-fields : goal.returns-clause-fields
returns-clause-fields c = rw c.shift_remove_index.ensures.entries (Fits-remove (λ (f : Field). f.id) c.args.fields.now.entries c.place_of-at.result c.requires.fields c.place_of-at.ensures.within)

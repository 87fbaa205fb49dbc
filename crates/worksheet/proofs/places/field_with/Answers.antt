use Rattle.std.proofs.Common.{◌∙◌, ap}
use Rattle.worksheet.proofs.Lookup.{flat}
use Rattle.worksheet.proofs.Standing.{found_under}
use Rattle.worksheet.proofs.places.field_with.Goals as goal

pub returns-in-None : goal.returns-in-None
returns-in-None c = ap flat c.in-None.ensures.value ∙ found_under c.args.fields.now.entries c.args.id c.requires

pub returns-in-Some : goal.returns-in-Some
returns-in-Some c = c.get-in-Some.ensures ∙ ap flat c.in-Some.ensures.value ∙ found_under c.args.fields.now.entries c.args.id c.requires

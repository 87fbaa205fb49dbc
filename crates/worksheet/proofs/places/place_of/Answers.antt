use Rattle.std.proofs.Common.{◌≡◌, ◌∙◌, true, false}
use Rattle.worksheet.proofs.Standing.{found_there, found_within, found_number}
use Rattle.worksheet.proofs.places.place_of.Goals as goal

pub unreachable-requires : goal.unreachable-requires
unreachable-requires c = let none : false ≡ true = c.in-None.ensures.found ∙ found_there c.args.fields.now.entries c.args.id c.requires.fields c.requires.there in cc

pub returns-clause-within : goal.returns-clause-within
returns-clause-within c = found_within c.args.fields.now.entries c.args.id c.in-Some.at c.requires.fields c.requires.there c.in-Some.ensures.value

pub returns-clause-found : goal.returns-clause-found
returns-clause-found c = λ d. found_number c.args.fields.now.entries c.args.id c.in-Some.at d c.requires.fields c.requires.there c.in-Some.ensures.value

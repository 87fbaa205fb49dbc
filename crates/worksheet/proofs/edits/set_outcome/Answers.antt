use Rattle.std.proofs.Common.{arith, refl}
use Rattle.worksheet.specs.Edits.{with_outcome}
use Rattle.worksheet.proofs.EntryLaws.{shown_within}
use Rattle.worksheet.proofs.Standing.{key_of, changed-shown, changed-fields}
use Rattle.worksheet.proofs.edits.set_outcome.Goals as goal

pub index_mut-requires : goal.index_mut-requires
index_mut-requires c = let n = shown_within key_of c.args.fields.now.entries c.requires.fields in omega (arith, n, c.place_of-at.ensures.within)

pub returns-clause-made : goal.returns-clause-made
returns-clause-made c = changed-shown c.args.fields.now.entries c.args.id c.place_of-at.result (with_outcome c.args.answer c.args.lost) c.requires.fields c.place_of-at.ensures.within (λ _. refl) c.index_mut.result.now c.set_outcome.new.self c.index_mut.ensures.value c.set_outcome.ensures c.requires.apart c.requires.there c.place_of-at.ensures.found

pub returns-clause-fields : goal.returns-clause-fields
returns-clause-fields c = changed-fields c.args.fields.now.entries c.args.id c.place_of-at.result (with_outcome c.args.answer c.args.lost) c.requires.fields c.place_of-at.ensures.within (λ _. refl) c.index_mut.result.now c.set_outcome.new.self c.index_mut.ensures.value c.set_outcome.ensures c.requires.there

use Rattle.std.proofs.Common.{◌∙◌, ap, arith}
use Rattle.std.specs.Prelude.{is_some}
use Rattle.indexmap.proofs.CallerLemmas.{index_map_len-with_value_at}
use Rattle.worksheet.specs.inside.Entries.{shown}
use Rattle.worksheet.proofs.EntryLaws.{length-ready}
use Rattle.worksheet.proofs.Standing.{key_of, put-shown, put-fields}
use Rattle.worksheet.proofs.edits.put_field.Goals as goal

pub returns-clause-made : goal.returns-clause-made
returns-clause-made c =
    let es = c.args.fields.now.entries in
    let to = c.place_after-to.result in
    ap shown c.move_index.ensures.entries
    ∙ rw (c.count_fields-from.ensures, c.put.ensures) (put-shown es c.args.field to c.requires.fields c.requires.ready c.place_after-to.ensures.within c.args.after c.requires.apart c.place_after-to.ensures.first c.place_after-to.ensures.following)

pub returns-clause-fields : goal.returns-clause-fields
returns-clause-fields c =
    let es = c.args.fields.now.entries in
    let to = c.place_after-to.result in
    rw (c.move_index.ensures.entries, c.count_fields-from.ensures, c.put.ensures) (put-fields es c.args.field to c.requires.fields c.requires.ready c.place_after-to.ensures.within)

pub index_mut-requires : goal.index_mut-requires
index_mut-requires c =
    let longer = length-ready key_of c.args.fields.now.entries c.requires.fields (ap is_some c.requires.ready) in
    omega (arith, longer, c.count_fields-from.ensures)

pub move_index-requires-clause-from_in_bounds : goal.move_index-requires-clause-from_in_bounds
move_index-requires-clause-from_in_bounds c =
    let longer = length-ready key_of c.args.fields.now.entries c.requires.fields (ap is_some c.requires.ready) in
    let same = index_map_len-with_value_at c.args.fields.now c.count_fields-from.result c.put.new.self in
    omega (arith, longer, same, c.count_fields-from.ensures)

pub move_index-requires-clause-to_in_bounds : goal.move_index-requires-clause-to_in_bounds
move_index-requires-clause-to_in_bounds c =
    let longer = length-ready key_of c.args.fields.now.entries c.requires.fields (ap is_some c.requires.ready) in
    let same = index_map_len-with_value_at c.args.fields.now c.count_fields-from.result c.put.new.self in
    omega (arith, longer, same, c.place_after-to.ensures.within)

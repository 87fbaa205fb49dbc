use Rattle.std.proofs.Common.{◌≡◌, ◌<◌, ◌≤◌, suc, ◌∙◌, arith, length, ap}
use Rattle.worksheet.specs.inside.Entries.{shown}
use Rattle.worksheet.proofs.EntryLaws.{shown_within}
use Rattle.worksheet.proofs.Standing.{key_of, moved-shown, moved-fields}
use Rattle.worksheet.proofs.edits.move_field.Goals as goal
use Rattle.worksheet.proofs.edits.move_field.Goals.{then-from-following, else-from-following}

pub move_index-requires-clause-from_in_bounds : goal.move_index-requires-clause-from_in_bounds
move_index-requires-clause-from_in_bounds c = let n = shown_within key_of c.args.fields.now.entries c.requires.fields in omega (arith, n, c.place_of-from.ensures.within)

pub move_index-requires-clause-to_in_bounds : goal.move_index-requires-clause-to_in_bounds
move_index-requires-clause-to_in_bounds c =
    let n = shown_within key_of c.args.fields.now.entries c.requires.fields in
    elim c.if-from-following.branch [
      | then-from-following w ↦ omega (arith, n, c.place_after-following.ensures.within, c.place_of-from.ensures.within, w.if-from-following, w.to-is)
      | else-from-following w ↦ omega (arith, n, c.place_of-from.ensures.within, w.if-from-following, w.to-is)
    ]

pub returns-clause-made : goal.returns-clause-made
returns-clause-made c =
    let inside : c.if-from-following.to < length (shown c.args.fields.now.entries) = elim c.if-from-following.branch [
      | then-from-following w ↦ omega (arith, c.place_after-following.ensures.within, w.if-from-following, w.to-is)
      | else-from-following w ↦ omega (arith, c.place_of-from.ensures.within, w.if-from-following, w.to-is)
    ] in
    let down : c.place_of-from.result < c.place_after-following.result → suc c.if-from-following.to ≡ c.place_after-following.result = elim c.if-from-following.branch [
      | then-from-following w ↦ λ l. omega (arith, w.to-is, l)
      | else-from-following w ↦ λ l. absurd (omega (arith, w.if-from-following, l))
    ] in
    let up : c.place_after-following.result ≤ c.place_of-from.result → c.if-from-following.to ≡ c.place_after-following.result = elim c.if-from-following.branch [
      | then-from-following w ↦ λ l. absurd (omega (arith, w.if-from-following, l))
      | else-from-following w ↦ λ l. w.to-is
    ] in
    ap shown c.move_index.ensures.entries ∙ moved-shown c.args.fields.now.entries c.args.id c.place_of-from.result c.if-from-following.to c.requires.fields c.requires.there c.place_of-from.ensures.within inside c.args.after c.requires.apart c.place_of-from.ensures.found c.requires.other
    c.place_after-following.result c.place_after-following.ensures.first c.place_after-following.ensures.following down up

pub returns-clause-fields : goal.returns-clause-fields
returns-clause-fields c =
    let inside : c.if-from-following.to < length (shown c.args.fields.now.entries) = elim c.if-from-following.branch [
      | then-from-following w ↦ omega (arith, c.place_after-following.ensures.within, w.if-from-following, w.to-is)
      | else-from-following w ↦ omega (arith, c.place_of-from.ensures.within, w.if-from-following, w.to-is)
    ] in
    rw c.move_index.ensures.entries (moved-fields c.args.fields.now.entries c.args.id c.place_of-from.result c.if-from-following.to c.requires.fields c.requires.there c.place_of-from.ensures.within inside)

use Rattle.std.proofs.Common.{sym, arith}
use Rattle.worksheet.proofs.EntryLaws.{shown_within}
use Rattle.worksheet.proofs.Standing.{key_of, stands-first, stands-later}
use Rattle.worksheet.proofs.places.stands_after.Goals as goal

pub returns-then-at-eq0 : goal.returns-then-at-eq0
returns-then-at-eq0 c = stands-first c.args.fields.now.entries c.args.id c.args.after c.place_of-at.result c.requires.fields c.requires.apart c.requires.there c.place_of-at.ensures.within c.place_of-at.ensures.found c.if-at-eq0.true

pub returns : goal.returns
returns c = stands-later c.args.fields.now.entries c.args.id c.args.after c.place_of-at.result c.requires.fields c.requires.apart c.requires.there c.place_of-at.ensures.within c.place_of-at.ensures.found
    c.in-Some.before.now c.in-Some.field-0-1.now (c.if-at-eq0.false) (sym c.in-Some.ensures.entry)

pub unreachable-requires : goal.unreachable-requires
unreachable-requires c =
    let n = shown_within key_of c.args.fields.now.entries c.requires.fields in
    let there = c.in-None.ensures.found.1 (omega (arith, n, c.place_of-at.ensures.within)) in
    cc

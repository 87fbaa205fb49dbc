use Rattle.std.proofs.Common.{◌≡◌, ◌∙◌, ap, sym, true, arith}
use Rattle.std.specs.Prelude.{is_some}
use Rattle.worksheet.specs.inside.Entries.{reserved}
use Rattle.worksheet.proofs.EntryLaws.{length-full, length-ready}
use Rattle.worksheet.proofs.Standing.{key_of}
use Rattle.worksheet.proofs.places.count_fields.Goals as goal

pub returns-in-Some : goal.returns-in-Some
returns-in-Some c =
    let there : is_some (reserved c.args.fields.now.entries) ≡ true = ap is_some (sym c.in-Some.ensures) in
    let longer = length-ready key_of c.args.fields.now.entries c.requires there in
    omega (arith, longer, c.len.ensures.len)

pub returns-in-None : goal.returns-in-None
returns-in-None c = c.len-in-None.ensures.len ∙ length-full key_of c.args.fields.now.entries (sym c.in-None.ensures)

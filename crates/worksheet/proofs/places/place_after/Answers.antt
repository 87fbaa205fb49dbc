use Rattle.std.proofs.Common.{arith}
use Rattle.worksheet.proofs.EntryLaws.{shown_within}
use Rattle.worksheet.proofs.Standing.{key_of}
use Rattle.worksheet.proofs.places.place_after.Goals as goal

pub overflow_add-result : goal.overflow_add-result
overflow_add-result c = let n = shown_within key_of c.args.fields.now.entries c.requires.fields in let w = c.place_of.ensures.within in omega (arith, n, w, c.len-count.ensures.small, c.len-count.ensures.len)

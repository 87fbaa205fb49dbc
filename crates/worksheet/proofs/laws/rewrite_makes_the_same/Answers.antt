use Rattle.worksheet.proofs.Rewriting.{rewrite_makes_the_same}
use Rattle.worksheet.proofs.laws.rewrite_makes_the_same.Goals as goal

pub returns : goal.returns
returns c = rewrite_makes_the_same

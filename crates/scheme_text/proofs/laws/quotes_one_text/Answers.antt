use Rattle.scheme_text.proofs.Read.{quotes_one_text}
use Rattle.scheme_text.proofs.laws.quotes_one_text.Goals as goal

pub returns : goal.returns
returns c = quotes_one_text

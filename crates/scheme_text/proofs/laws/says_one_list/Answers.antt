use Rattle.scheme_text.proofs.Read.{says_one_list}
use Rattle.scheme_text.proofs.laws.says_one_list.Goals as goal

pub returns : goal.returns
returns c = says_one_list

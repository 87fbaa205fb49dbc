use Rattle.scheme_text.specs.Same.{same_completions-Decides}
use Rattle.scheme_text.proofs.laws.equal_completions.Goals as goal

pub returns : goal.returns
returns c a b = same_completions-Decides a b

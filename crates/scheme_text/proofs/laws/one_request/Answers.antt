use Rattle.scheme_text.proofs.Requests.{one_request}
use Rattle.scheme_text.proofs.laws.one_request.Goals as goal

pub returns : goal.returns
returns c = one_request

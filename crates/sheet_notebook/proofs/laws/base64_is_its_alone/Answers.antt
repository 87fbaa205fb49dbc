use Rattle.sheet_notebook.proofs.Base64.{base64_alone}
use Rattle.sheet_notebook.proofs.laws.base64_is_its_alone.Goals as goal

pub returns : goal.returns
returns c = base64_alone

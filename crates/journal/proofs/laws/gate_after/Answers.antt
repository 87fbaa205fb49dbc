use Rattle.std.proofs.Common.{refl, ◌∙◌, arith}
use Rattle.journal.proofs.Bytes.{end-push}
use Rattle.journal.proofs.laws.gate_after.Goals as goal

pub returns : goal.returns
returns c = (refl, λ payloads payload. end-push payloads payload ∙ omega (arith))

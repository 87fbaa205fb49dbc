use Rattle.std.proofs.Common.{◌≡◌, ◌∙◌}
use Rattle.worksheet.proofs.CheckLaws.{is_ok-text}
use Rattle.worksheet.proofs.check.is_utf8.Goals as goal

pub returns : goal.returns
returns c = c.is_ok.ensures.value ∙ is_ok-text (λ text. text.now ≡ c.args.bytes.now) _ c.args.bytes.now c.from_utf8.result c.from_utf8.ensures.cases

use Rattle.sheet_export.proofs.Spans.{spans_nest}
use Rattle.sheet_export.proofs.laws.spans_nest.Goals as goal

pub returns : goal.returns
returns c = spans_nest c.pictures_are_base64.ensures

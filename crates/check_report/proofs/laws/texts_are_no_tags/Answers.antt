use Rattle.check_report.proofs.Tags.{no_tags}
use Rattle.check_report.proofs.laws.texts_are_no_tags.Goals as goal

pub returns : goal.returns
returns c = no_tags

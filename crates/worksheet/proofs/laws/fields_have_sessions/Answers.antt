use Rattle.worksheet.proofs.ApartLaws.{fields_have_sessions}
use Rattle.worksheet.proofs.laws.fields_have_sessions.Goals as goal

pub returns : goal.returns
returns c = fields_have_sessions

use Rattle.sheet_export.proofs.SaysOps.{scripts_say}
use Rattle.sheet_export.proofs.laws.scripts_say_their_ops.Goals as goal

pub returns : goal.returns
returns c = scripts_say c.numbers_are_decimals.ensures

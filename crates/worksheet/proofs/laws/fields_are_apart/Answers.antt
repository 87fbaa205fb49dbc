use Rattle.worksheet.proofs.NextLaws.{sound_of}
use Rattle.worksheet.proofs.laws.fields_are_apart.Goals as goal

pub returns : goal.returns
returns c = sound_of

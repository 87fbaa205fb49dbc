use Rattle.worksheet.proofs.Existence.{next_of-ids}
use Rattle.worksheet.proofs.laws.numbers_count_from_ids.Goals as goal

pub returns : goal.returns
returns c = next_of-ids

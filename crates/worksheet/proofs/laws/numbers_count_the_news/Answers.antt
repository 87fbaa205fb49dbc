use Rattle.worksheet.proofs.Existence.{next_of-count}
use Rattle.worksheet.proofs.laws.numbers_count_the_news.Goals as goal

pub returns : goal.returns
returns c = next_of-count

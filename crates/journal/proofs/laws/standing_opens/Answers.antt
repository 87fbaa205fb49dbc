use Rattle.journal.proofs.Unique.{refused}
use Rattle.journal.proofs.laws.standing_opens.Goals as goal

pub returns : goal.returns
returns c = λ image payloads cause stands reported. refused image payloads cause reported stands

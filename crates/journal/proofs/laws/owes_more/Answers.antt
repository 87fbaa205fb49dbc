use Rattle.std.proofs.Common.{◌++◌, refl}
use Rattle.journal.proofs.Owing.{owed_keeps, owes_moments, owes_other}
use Rattle.journal.proofs.laws.owes_more.Goals as goal

pub returns : goal.returns
returns c = λ v end before ps payload sound keeps each is.
    let all = owed_keeps v end before ps sound keeps each in
    (all, owes_moments v end before ps sound keeps each payload is _ (before ++ ps) refl all, owes_other v end before ps sound keeps each payload is)

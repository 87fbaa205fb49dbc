use Rattle.std.proofs.Common.{◌∷◌, []}
use Rattle.journal.proofs.Bytes.{one_group}
use Rattle.journal.proofs.append.add_one.Goals as goal

pub returns-clause-any_moment : goal.returns-clause-any_moment
returns-clause-any_moment g c = λ model payloads payload is_payload are keeps.
    c.add.ensures.any_moment model payloads (payload ∷ []) (is_payload, tt) (one_group payload _ are) keeps

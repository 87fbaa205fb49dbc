use Rattle.theorem.proofs.Reported.{left}
use Rattle.theorem.proofs.Visits.{invocations_left}
use Rattle.theorem.proofs.Filing.{all_did, came}
use Rattle.theorem.proofs.opened_after.Goals as goal

pub returns-clause-hosts : goal.returns-clause-hosts
returns-clause-hosts g c = λ model room first before turns allowed image story.
    let it = left c.hosts_in_turn.ensures c.calls_leave_prefixes.ensures room first before _ turns allowed image story in
    record { left = it; opens = c.open.ensures.exact model _ it.image }

pub returns-clause-programs : goal.returns-clause-programs
returns-clause-programs g c = λ model room first before turns allowed image story.
    let visited = invocations_left c.hosts_in_turn.ensures room first before _ turns allowed image story in
    record { left = visited; opens = c.open.ensures.exact model _ visited.image }

pub returns-clause-acts : goal.returns-clause-acts
returns-clause-acts g c = λ model room first before acts allowed image story.
    let all = all_did c.hosts_in_turn.ensures c.one_sheet.ensures room before _ acts _ image story in
    record { sheet = all.last; did = all.did; image = all.image; shows = λ f a has some. came room before _ acts _ all.last all.did f a has some; opens = c.open.ensures.exact model _ all.image }

use Rattle.std.proofs.Common.{◌≡◌, take, map}
use Rattle.field_agenda.specs.Says.{asks_field}
use Rattle.field_agenda.proofs.asking.evals.Given as goal

abbrev pub invariant-loop-id : goal.invariant-loop-id
invariant-loop-id l = l.events.items ≡ map asks_field (take l.id-index l.group)

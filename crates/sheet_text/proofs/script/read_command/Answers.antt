use Rattle.std.proofs.Common.{rules}
use Rattle.sheet_text.proofs.script.read_command.Goals as goal

pub returns-then-eq-clause-ok : goal.returns-then-eq-clause-ok
returns-then-eq-clause-ok c = search (rules)

pub returns-then-eq-clause-bad : goal.returns-then-eq-clause-bad
returns-then-eq-clause-bad c = search (rules)

pub returns-then-eq-clause-memory : goal.returns-then-eq-clause-memory
returns-then-eq-clause-memory c = search (rules)

pub returns-then-eq-2-clause-ok : goal.returns-then-eq-2-clause-ok
returns-then-eq-2-clause-ok c = search (rules)

pub returns-then-eq-2-clause-bad : goal.returns-then-eq-2-clause-bad
returns-then-eq-2-clause-bad c = search (rules)

pub returns-then-eq-2-clause-memory : goal.returns-then-eq-2-clause-memory
returns-then-eq-2-clause-memory c = search (rules)

pub returns-then-eq-3-clause-ok : goal.returns-then-eq-3-clause-ok
returns-then-eq-3-clause-ok c = search (rules)

pub returns-then-eq-3-clause-bad : goal.returns-then-eq-3-clause-bad
returns-then-eq-3-clause-bad c = search (rules)

pub returns-then-eq-3-clause-memory : goal.returns-then-eq-3-clause-memory
returns-then-eq-3-clause-memory c = search (rules)

pub returns-then-eq-4-clause-ok : goal.returns-then-eq-4-clause-ok
returns-then-eq-4-clause-ok c = search (rules)

pub returns-then-eq-4-clause-bad : goal.returns-then-eq-4-clause-bad
returns-then-eq-4-clause-bad c = search (rules)

pub returns-then-eq-4-clause-memory : goal.returns-then-eq-4-clause-memory
returns-then-eq-4-clause-memory c = search (rules)

pub returns-then-eq-5-clause-ok : goal.returns-then-eq-5-clause-ok
returns-then-eq-5-clause-ok c = search (rules)

pub returns-then-eq-5-clause-bad : goal.returns-then-eq-5-clause-bad
returns-then-eq-5-clause-bad c = search (rules)

pub returns-then-eq-5-clause-memory : goal.returns-then-eq-5-clause-memory
returns-then-eq-5-clause-memory c = search (rules)

pub returns-then-eq-6-clause-ok : goal.returns-then-eq-6-clause-ok
returns-then-eq-6-clause-ok c = search (rules)

pub returns-then-eq-6-clause-bad : goal.returns-then-eq-6-clause-bad
returns-then-eq-6-clause-bad c = search (rules)

pub returns-then-eq-6-clause-memory : goal.returns-then-eq-6-clause-memory
returns-then-eq-6-clause-memory c = search (rules)

pub returns-then-eq-7-clause-ok : goal.returns-then-eq-7-clause-ok
returns-then-eq-7-clause-ok c = search (rules)

pub returns-then-eq-7-clause-bad : goal.returns-then-eq-7-clause-bad
returns-then-eq-7-clause-bad c = search (rules)

pub returns-then-eq-7-clause-memory : goal.returns-then-eq-7-clause-memory
returns-then-eq-7-clause-memory c = search (rules)

pub returns-then-eq-8-clause-ok : goal.returns-then-eq-8-clause-ok
returns-then-eq-8-clause-ok c = search (rules)

pub returns-then-eq-8-clause-bad : goal.returns-then-eq-8-clause-bad
returns-then-eq-8-clause-bad c = search (rules)

pub returns-then-eq-8-clause-memory : goal.returns-then-eq-8-clause-memory
returns-then-eq-8-clause-memory c = search (rules)

pub returns-then-eq-9-clause-ok : goal.returns-then-eq-9-clause-ok
returns-then-eq-9-clause-ok c = search (rules)

pub returns-then-eq-9-clause-bad : goal.returns-then-eq-9-clause-bad
returns-then-eq-9-clause-bad c = search (rules)

pub returns-then-eq-9-clause-memory : goal.returns-then-eq-9-clause-memory
returns-then-eq-9-clause-memory c = search (rules)

pub returns-else-eq-9-clause-ok : goal.returns-else-eq-9-clause-ok
returns-else-eq-9-clause-ok c = search (rules)

pub returns-else-eq-9-clause-bad : goal.returns-else-eq-9-clause-bad
returns-else-eq-9-clause-bad c = search (rules)

pub returns-else-eq-9-clause-memory : goal.returns-else-eq-9-clause-memory
returns-else-eq-9-clause-memory c = search (rules)

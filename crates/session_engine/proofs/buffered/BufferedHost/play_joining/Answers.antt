use Rattle.std.proofs.Common.{rules}
use Rattle.session_engine.proofs.Gathering.{none_of}
use Rattle.session_engine.proofs.buffered.BufferedHost.play_joining.Goals as goal

pub join_owed-requires-clause-none : goal.join_owed-requires-clause-none
join_owed-requires-clause-none g c = none_of c.args.events.items (search rules)

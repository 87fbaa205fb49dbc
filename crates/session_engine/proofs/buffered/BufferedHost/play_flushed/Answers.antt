use Rattle.std.proofs.Common.{rules}
use Rattle.session_engine.proofs.Gathering.{none_of, no_group}
use Rattle.session_engine.proofs.Until.{halts_by}
use Rattle.session_engine.proofs.buffered.BufferedHost.play_flushed.Goals as goal

pub play_owed-requires-clause-none : goal.play_owed-requires-clause-none
play_owed-requires-clause-none g c = none_of c.args.events.items (search rules)

pub returns-in-Err-clause-halts : goal.returns-in-Err-clause-halts
returns-in-Err-clause-halts g c = λ w h. halts_by c.args.up_to w c.args.events.items c.args.self.now c.args.self.now _ (no_group w c.args.events.items c.args.self.now h) (λ on. tt)

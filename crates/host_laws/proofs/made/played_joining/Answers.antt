use Rattle.host_laws.proofs.Joined.{all_met}
use Rattle.host_laws.proofs.made.played_joining.Goals as goal

pub returns-clause-meets : goal.returns-clause-meets
returns-clause-meets g c = λ w is. all_met _ w c.args.events.items c.args.host.now c.play_joining-played.new.self c.sheet-before.ensures.written.1 c.sheet-after.ensures.written.1 c.play_joining-played.ensures.same
    c.play_joining-played.result (c.play_joining-played.ensures.took w is) (c.play_joining-played.ensures.halts w is)

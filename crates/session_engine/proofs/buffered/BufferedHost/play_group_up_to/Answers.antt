use Rattle.session_engine.proofs.buffered.BufferedHost.play_group_up_to.Goals as goal

pub returns-clause-halts : goal.returns-clause-halts
returns-clause-halts g c = λ w h. c.play_flushed.ensures.halts w h

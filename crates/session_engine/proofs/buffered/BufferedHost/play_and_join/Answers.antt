use Rattle.std.proofs.Common.{refl}
use Rattle.session_engine.specs.Joining.{alone, asking}
use Rattle.session_engine.proofs.JoinLaws.{all_run, played_joined, stops_at, stops_later}
use Rattle.session_engine.proofs.buffered.BufferedHost.play_and_join.Goals as goal

pub returns-in-Err-clause-halts : goal.returns-in-Err-clause-halts
returns-in-Err-clause-halts g c = λ w h. (c.args.events.items, alone refl, stops_at w c.args.events.items c.play_onto.new.outcomes.items c.in-Err.fault c.args.self.now c.play_onto.new.self (c.in-Err.ensures.halts w h))

pub returns-in-Ok-clause-played : goal.returns-in-Ok-clause-played
returns-in-Ok-clause-played g c = λ w h.
    let reported = c.play_onto.new.outcomes.items in
    let p = c.in_default.ensures.played w h in
    let v = p.played.leads in
    played_joined w c.args.events.items reported v (all_run w c.args.events.items reported c.play_onto.new.self p) (asking g.J.Joins.joins c.args.joins.now c.join-first.new.self) c.join-first.result.first c.join-first.result.events.items
    (c.join-first.ensures.joins v p.played.stands) c.play_onto-2.new.self (record { outcomes = c.play_onto.new.outcomes; first = c.join-first.result.first; later = c.play_onto-2.new.outcomes }) refl refl (c.in-Ok.ensures.played v p.played.stands)

pub returns-in-Err-play_onto-clause-halts : goal.returns-in-Err-play_onto-clause-halts
returns-in-Err-play_onto-clause-halts g c = λ w h.
    let reported = c.play_onto.new.outcomes.items in
    let p = c.in_default.ensures.played w h in
    let v = p.played.leads in
    stops_later w c.args.events.items reported v (all_run w c.args.events.items reported c.play_onto.new.self p) (asking g.J.Joins.joins c.args.joins.now c.join-first.new.self) c.join-first.result.first c.join-first.result.events.items
    (c.join-first.ensures.joins v p.played.stands) c.play_onto-2.new.outcomes.items c.in-Err-play_onto.fault c.play_onto.new.self c.play_onto-2.new.self (c.in-Err-play_onto.ensures.halts v p.played.stands)

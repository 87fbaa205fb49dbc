use Rattle.std.proofs.Common.{◌∙◌, ap, sym, subst, Ok}
use Rattle.script_agenda.specs.Says.{WaitSays, next_life}
use Rattle.script_agenda.specs.ScriptAt.{script_stand, with_round}
use Rattle.script_agenda.proofs.by_script.ByScript.next_life.Goals as goal

pub returns-in-Some : goal.returns-in-Some
returns-in-Some g c = λ w h.
    next_life c.in-Some.seat c.next_in_round.new.self.round.items c.in-Some.ensures.some (ap (λ t. Ok t) c.ask_life.ensures) c.next_in_round.ensures.stands

pub returns-in-None : goal.returns-in-None
returns-in-None g c = λ w h.
    let none = c.in-None.ensures.none in
    -- nothing was taken off
    let still = c.next_in_round.ensures.stands ∙ ap (λ round. with_round (script_stand c.args.self.now) round) (none.1 ∙ sym none.0) in
    subst (λ a. WaitSays a w c.args.rounds c.begin_round.result (script_stand c.begin_round.new.self)) still (c.begin_round.ensures w none.1 h)

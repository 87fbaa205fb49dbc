use Rattle.std.proofs.Common.{◌∙◌, ◌+◌, ap, sym, arith, Some, Ok}
use Rattle.script_agenda.specs.Says.{next_round}
use Rattle.script_agenda.specs.ScriptAt.{waiting}
use Rattle.script_agenda.proofs.by_script.ByScript.begin_round.Goals as goal

pub returns-in-Some : goal.returns-in-Some
returns-in-Some g c = λ w none h.
    next_round c.in-Some.seat c.next_in_round.new.self.round.items none (omega (arith, c.if-rounds-gt-MOST_ROUNDS.false))
    (sym (c.in-Ok.ensures w h) ∙ c.in-Some.ensures.some) (ap (λ t. Ok t) c.ask_life.ensures)
    (ap (λ x. waiting x (Some (c.args.rounds + 1))) c.next_in_round.ensures.stands)

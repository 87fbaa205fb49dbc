use Rattle.std.proofs.Common.{ℕ, ◌∙◌, subst, sym}
use Rattle.std.specs.Prelude.{Option}
use Rattle.script_agenda.specs.Says.{SaysIn}
use Rattle.script_agenda.specs.ScriptAt.{script_stand}
use Rattle.script_agenda.proofs.by_script.ByScript.next_action.Goals as goal

pub returns-in-Some : goal.returns-in-Some
returns-in-Some g c = λ w h.
    subst (λ (wait : Option ℕ). SaysIn wait (script_stand c.args.self.now) w c.next_life.result (script_stand c.next_life.new.self)) (sym c.in-Some.is) (c.next_life.ensures w h)

pub returns : goal.returns
returns g c = λ w h.
    subst (λ (wait : Option ℕ). SaysIn wait (script_stand c.args.self.now) w c.take_lines.result (script_stand c.take_lines.new.self)) (sym c.in_default.is)
    (c.take_lines.ensures (sym c.is_stopped.ensures ∙ c.if-is_stopped.false))

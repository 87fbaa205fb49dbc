use Rattle.std.proofs.Common.{sym, ◌∙◌}
use Rattle.session_engine.proofs.Withdrawing.{edits_pushed}
use Rattle.session_engine.proofs.edits.Edits.add.Goals as goal

pub invariant_of-self : goal.invariant_of-self
invariant_of-self c =
    edits_pushed _ c.self.inside.events.items c.push.new.self.items c.args.command c.push.ensures.items c.self.invariant (sym c.is_edit.ensures ∙ c.if-not-is_edit.false)

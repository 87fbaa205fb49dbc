use Rattle.std.proofs.Common.{◌++◌, ◌∷◌, ◌∙◌, [], List, ap}
use Rattle.host_events.specs.declared.event.Event.{Event}
use Rattle.host_events.specs.declared.event.Event.TheVariants as event
use Rattle.line_agenda.proofs.alone.one_event.Goals as goal

pub returns-then-add_command : goal.returns-then-add_command
returns-then-add_command c =
    let added = c.add_command.ensures.added c.if-add_command.true in
    (added.0, added.1 ∙ ap (λ (es : List Event). es ++ event.Command c.args.command ∷ []) c.new-events.ensures.items)

use Rattle.std.proofs.Common.{◌≡◌, ◌++◌, List, Some, ap, sym, ◌∙◌}
use Rattle.host_events.specs.declared.event.Event.{Event}
use Rattle.sheet_text.specs.Script.{line_of}
use Rattle.sheet_text.specs.declared.script.ScriptLine.TheVariants as says
use Rattle.live.specs.LineEvents.{line_events}
use Rattle.line_agenda.proofs.gathering.add_line.Goals as goal

pub returns-in-Ok-Command-clause-added : goal.returns-in-Ok-Command-clause-added
returns-in-Ok-Command-clause-added c = λ is.
    let added = c.add_command.ensures.added is in
    let tells : line_of c.args.line.now ≡ Some (says.Command c.in-Ok-Command.command) = c.in-Ok-Command.ensures.ok ∙ ap Some c.in-Ok-Command.field-0-is in
    ((c.in-Ok-Command.command, tells, added.0), added.1 ∙ ap (λ (es : List Event). c.args.events.now.items ++ es) (sym (ap line_events tells)))

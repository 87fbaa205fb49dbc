use Rattle.std.proofs.Common.{◌∙◌, ap, refl, sym, subst}
use Rattle.std.specs.Prelude.{◌&&◌, None, Some, true}
use Rattle.tellings.specs.declared.note.Note.TheVariants as note
use Rattle.live.specs.declared.holding.Hold.TheVariants as hold
use Rattle.live.specs.Saying.{stop_if}
use Rattle.line_agenda.specs.LinesAt.{lines_stand}
use Rattle.driver.specs.Reports.{came_of}
use Rattle.line_agenda.specs.Heeds.{HeedsDone, after_warning, interrupt_note, refused_one}
use Rattle.line_agenda.proofs.by_lines.ByLines.heed_done.Goals as goal

pub returns-in-Nothing : goal.returns-in-Nothing
returns-in-Nothing g c = λ w h.
    let before = lines_stand g.R.Read.remaining c.args.self.now in
    (before.held, subst (λ d. HeedsDone before w c.args.now (came_of c.args.came.now) d None before.held) (sym c.in-Nothing.is) (refl, refl), refl)

pub returns-in-Line : goal.returns-in-Line
returns-in-Line g c = λ w h.
    let before = lines_stand g.R.Read.remaining c.args.self.now in
    (c.stop_if-self.result, subst (λ d. HeedsDone before w c.args.now (came_of c.args.came.now) d None c.stop_if-self.result) (sym c.in-Line.is) (refl, c.stop_if-self.ensures), refl)

pub returns-in-Interrupt : goal.returns-in-Interrupt
returns-in-Interrupt g c = λ w h.
    let before = lines_stand g.R.Read.remaining c.args.self.now in (
      c.stop_if-self-in-Interrupt.result,
      subst (λ d. HeedsDone before w c.args.now
          (came_of c.args.came.now) d c.note_interrupted.result c.stop_if-self-in-Interrupt.result) (sym c.in-Interrupt.is) (
            c.note_interrupted.ensures ∙ ap (λ reported. interrupt_note
                (note.Interrupted before.number c.in-Interrupt.name) reported) c.interrupt_of.ensures,
            c.stop_if-self-in-Interrupt.ensures,
          ),
      refl,
    )

pub returns-in-Commands : goal.returns-in-Commands
returns-in-Commands g c = λ w h.
    let before = lines_stand g.R.Read.remaining c.args.self.now in (
      c.stop_if-self-in-Commands.result,
      subst (λ d. HeedsDone before w c.args.now (came_of c.args.came.now) d None c.stop_if-self-in-Commands.result) (sym c.in-Commands.is)
          (refl, c.stop_if-self-in-Commands.ensures ∙ ap (λ wrong. stop_if (before.manner.strict && wrong) before.held) c.went_wrong.ensures),
      refl,
    )

pub returns-in-Transaction : goal.returns-in-Transaction
returns-in-Transaction g c = λ w h.
    let before = lines_stand g.R.Read.remaining c.args.self.now in
    let held = stop_if (before.manner.strict && refused_one (came_of c.args.came.now)) before.held in (
      held,
      subst (λ d. HeedsDone before w c.args.now (came_of c.args.came.now) d c.heed_transaction.result held) (sym c.in-Transaction.is)
          (c.heed_transaction.ensures.note, refl),
      c.heed_transaction.ensures.stands,
    )

pub returns-in-Life : goal.returns-in-Life
returns-in-Life g c = λ w h.
    let before = lines_stand g.R.Read.remaining c.args.self.now in
    let heeds = c.heed_life.ensures w h in
    (heeds.0, subst (λ d. HeedsDone before w c.args.now (came_of c.args.came.now) d c.heed_life.result heeds.0) (sym c.in-Life.is) heeds.1, heeds.2)

pub returns-in-Warning : goal.returns-in-Warning
returns-in-Warning g c = λ w h.
    let before = lines_stand g.R.Read.remaining c.args.self.now in (
      c.after_warning-self.result,
      subst (λ d. HeedsDone before w c.args.now (came_of c.args.came.now) d c.note_warned.result c.after_warning-self.result) (sym c.in-Warning.is) (
        c.note_warned.ensures ∙ ap (λ reported. interrupt_note
            (note.Warned c.in-Warning.seat) reported) c.interrupt_of-in-Warning.ensures,
        c.after_warning-self.ensures ∙ ap
            (λ late. after_warning before.manner.strict c.args.now late before.held) c.as_slice.ensures.value,
      ),
      refl,
    )

pub returns-in-Stall : goal.returns-in-Stall
returns-in-Stall g c = λ w h.
    let before = lines_stand g.R.Read.remaining c.args.self.now in (
      c.stop_if-self-in-Stall.result,
      subst (λ d. HeedsDone before w c.args.now (came_of c.args.came.now) d (Some (note.Waited before.number true)) c.stop_if-self-in-Stall.result) (sym c.in-Stall.is)
          (refl, c.stop_if-self-in-Stall.ensures ∙ ap (λ wrong. stop_if (before.manner.strict && wrong) hold.Free) c.went_wrong-in-Stall.ensures),
      refl,
    )

use Rattle.std.proofs.Common.{◌∙◌, ap, refl, subst}
use Rattle.std.specs.Prelude.{◌&&◌}
use Rattle.live.specs.Saying.{stop_if}
use Rattle.line_agenda.specs.Heeds.{LifeGoesOn}
use Rattle.line_agenda.proofs.by_lines.ByLines.heed_life.Goals as goal

pub returns : goal.returns
returns g c = λ w h. (
  c.stop_if-self.result,
  (
    c.after_life-on.result,
    subst (λ closed. LifeGoesOn c.args.self.now.manner.limit w c.args.now closed c.args.self.now.held c.after_life-on.result) c.closed_one.ensures (c.after_life-on.ensures w h),
    c.note_over.ensures,
    c.stop_if-self.ensures ∙ ap (λ wrong. stop_if (c.args.self.now.manner.strict && wrong) c.after_life-on.result) c.went_wrong.ensures,
  ),
  refl,
)

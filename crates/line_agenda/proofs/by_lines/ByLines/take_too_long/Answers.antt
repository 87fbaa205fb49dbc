use Rattle.std.proofs.Common.{◌∙◌, ap, refl, subst, sym}
use Rattle.std.specs.Prelude.{None}
use Rattle.line_agenda.specs.LinesAt.{lines_stand, with_transaction}
use Rattle.line_agenda.specs.Transactions.{breaks_transaction}
use Rattle.line_agenda.specs.Taking.{TakesAlone}
use Rattle.line_agenda.proofs.Taken.{asks_same}
use Rattle.line_agenda.proofs.by_lines.ByLines.take_too_long.Goals as goal

pub returns-in-None : goal.returns-in-None
returns-in-None g c = λ w.
    let before = lines_stand g.R.Read.remaining c.args.self.now in
    subst (λ b. TakesAlone (with_transaction before b) w c.args.now None c.follow.result (lines_stand g.R.Read.remaining c.follow.new.self)) (sym c.in-None.is ∙ c.take.ensures.value) (
      c.bad.result,
      asks_same c.reading-at.result.manner c.args.self.now.manner c.reading-at.result.number _ w c.reading-at.result.now c.args.now None None c.bad.result
          c.reading-at.ensures.manner c.reading-at.ensures.number c.reading-at.ensures.now refl (c.bad.ensures w),
      c.follow.ensures.action,
      c.follow.ensures.stands,
    )

pub returns-in-Some : goal.returns-in-Some
returns-in-Some g c = λ w.
    let before = lines_stand g.R.Read.remaining c.args.self.now in
    subst (λ b. TakesAlone (with_transaction before b) w c.args.now None c.follow-in-Some.result (lines_stand g.R.Read.remaining c.follow-in-Some.new.self))
    (sym c.in-Some.is ∙ c.take.ensures.value) (
      c.break_at.result,
      c.break_at.ensures ∙ ap (λ n. breaks_transaction c.in-Some.transaction n) c.reading-at.ensures.number,
      c.follow-in-Some.ensures.action,
      c.follow-in-Some.ensures.stands,
    )

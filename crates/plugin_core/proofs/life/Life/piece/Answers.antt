use Rattle.std.proofs.Common.{◌++◌, true, refl, subst, sym}
use Rattle.std.proofs.lemmas.Result.{IfOk-weaker}
use Rattle.meta_format.specs.Found.{outers}
use Rattle.plugin_core.specs.Past.{stream_of}
use Rattle.plugin_core.specs.Kept.{InterpreterView, LifeHasPast}
use Rattle.plugin_core.proofs.Pieces.{Fed, passes_gives, ends_gives}
use Rattle.plugin_core.proofs.life.Life.piece.Goals as goal
use Rattle.plugin_core.proofs.life.Life.piece.Goals.{in-Ok, in-Err}

pub invariant_of-self : goal.invariant_of-self
invariant_of-self c =
    (c.self.invariant.0, λ going. let f = c.self.invariant.1 going in (f.0 ++ c.args.piece.now, f.1 ++ outers c.in-Ok.found.items, c.in-Ok.ensures.ok f.0 f.1 f.2), c.self.invariant.2, c.self.invariant.3)

pub returns-else-is_err-clause-ok : goal.returns-else-is_err-clause-ok
returns-else-is_err-clause-ok c = λ past before now.
    let i = c.self.inside in
    let old : InterpreterView = record { number = i.number; over = i.over; reader = i.reader; ask = i.ask; greeted = i.greeted; waiting = i.waiting.items; prompt = i.prompt } in
    let s : LifeHasPast old past before = subst (λ (l : InterpreterView). LifeHasPast l past before) (sym c.self.view_is) now in
    elim c.match-feed.branch [
      | in-Ok w ↦
          let mid : InterpreterView = record old { reader = c.feed.new.self } in
          let fed : Fed old mid = record { ask = refl; greeted = refl; waiting = refl; prompt = refl } in
          rw (w.step-is, w.self-is) (IfOk-weaker w.pass-step.result _ _ (λ step h. passes_gives old mid w.pass-step.new.self past before c.args.piece.now (outers w.in-Ok.found.items) step s fed s.goes_on
          (w.in-Ok.ensures.ok (stream_of past) before s.reader) (w.in-Ok.ensures.closes (stream_of past) before s.reader) h)
          w.pass-step.ensures.ok)
      | in-Err w ↦
          let mid : InterpreterView = record old { over = true; reader = c.feed.new.self } in
          let fed : Fed old mid = record { ask = refl; greeted = refl; waiting = refl; prompt = refl } in
          rw (w.step-is, w.self-is) (IfOk-weaker w.end_at-step.result _ _ (λ step h. ends_gives old mid w.end_at-step.new.self past before c.args.piece.now w.in-Err.fault step s fed
          (w.in-Err.ensures.fault (stream_of past) before s.reader) (w.in-Err.ensures.closes_before (stream_of past) before s.reader) h) w.end_at-step.ensures.ok)
    ]

use Rattle.std.proofs.Common.{◌∙◌}
use Rattle.evaluation.proofs.Looking.{looked_begin, looked_found, looked_next}
use Rattle.evaluation.proofs.programs.lacking_in.Goals as goal

pub loop-session-init : goal.loop-session-init
loop-session-init g c =
    looked_begin (g.P.Programs.finds c.args.programs.now) c.args.sheet.now.contents.fields c.args.ids.now c.args.sheet.now.contents.sessions c.into_iter-session-iterator.result
    (c.into_iter-session-iterator.ensures.into_iter_gives ∙ c.sessions-session-items.ensures)

pub loop-session-preserved : goal.loop-session-preserved
loop-session-preserved g c =
    looked_next (g.P.Programs.finds c.args.programs.now) c.args.sheet.now.contents.fields c.args.ids.now c.args.sheet.now.contents.sessions c.loop-session.session-iterator c.in-Some.session.now c.next.new.self
    c.in-Some.ensures.steps (c.is_ready.ensures.ready c.if-not-is_ready.false) c.loop-session.invariant

pub returns-then-not-is_ready-clause-found : goal.returns-then-not-is_ready-clause-found
returns-then-not-is_ready-clause-found g c =
    looked_found (g.P.Programs.finds c.args.programs.now) c.args.sheet.now.contents.fields c.args.ids.now c.args.sheet.now.contents.sessions c.loop-session.session-iterator c.in-Some.session.now c.next.new.self
    c.in-Some.ensures.steps (c.is_ready.ensures.needed c.if-not-is_ready.true) (c.is_ready.ensures.unfound c.if-not-is_ready.true) c.loop-session.invariant

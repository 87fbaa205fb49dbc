use Rattle.std.proofs.Common.{◌≡◌, ◌++◌, ◌∷◌, [], List, map, ap}
use Rattle.worksheet.specs.declared.field.Session.{Session}
use Rattle.worksheet.specs.Rewrite.{session_op}
use Rattle.recovery.proofs.Gathering.{so_far_on}
use Rattle.recovery.proofs.rewriting.put_sessions.Goals as goal

pub loop-session-preserved : goal.loop-session-preserved
loop-session-preserved c =
    let s = session_op c.in-Some.session.now in
    let rest : map session_op c.loop-session.sessions ≡ (s ∷ []) ++ map session_op c.next.new.self = ap (λ (ss : List Session). map session_op ss) c.in-Some.ensures.steps in
    so_far_on _ _ (s ∷ []) (map session_op c.next.new.self) _ _ _ c.loop-session.invariant rest c.in_ok-put.ensures

use Rattle.std.proofs.Common.{◌≡◌, ◌++◌, ◌∷◌, [], List, map, ap, subst}
use Rattle.std.specs.List.{AllByRecursion}
use Rattle.worksheet.specs.declared.field.Session.{Session}
use Rattle.worksheet.specs.Rewrite.{session_op}
use Rattle.recovery.specs.inside.Measured.{HasRecord}
use Rattle.recovery.proofs.Measures.{measured_on, measured_stops, rest_measured}
use Rattle.recovery.proofs.measuring.left_after_sessions.Goals as goal

pub left_after_session-requires : goal.left_after_session-requires
left_after_session-requires c =
    let rest : map session_op c.loop-session.sessions ≡ session_op c.in-Some.session.now ∷ map session_op c.next.new.self = ap (λ (ss : List Session). map session_op ss) c.in-Some.ensures.steps in
    (subst (AllByRecursion HasRecord) rest (rest_measured HasRecord _ _ _ _ c.loop-session.invariant c.requires)).0

pub returns-in-None : goal.returns-in-None
returns-in-None c =
    let s = session_op c.in-Some.session.now in
    let rest : map session_op c.loop-session.sessions ≡ (s ∷ []) ++ map session_op c.next.new.self = ap (λ (ss : List Session). map session_op ss) c.in-Some.ensures.steps in
    measured_stops _ _ (s ∷ []) (map session_op c.next.new.self) _ _ c.loop-session.invariant rest c.in-None.ensures

pub loop-session-preserved : goal.loop-session-preserved
loop-session-preserved c =
    let s = session_op c.in-Some.session.now in
    let rest : map session_op c.loop-session.sessions ≡ (s ∷ []) ++ map session_op c.next.new.self = ap (λ (ss : List Session). map session_op ss) c.in-Some.ensures.steps in
    measured_on _ _ (s ∷ []) (map session_op c.next.new.self) _ _ _ c.loop-session.invariant rest c.in-Some-left_after_session.ensures

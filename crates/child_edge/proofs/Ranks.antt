-- At most three events come of one.
use Rattle.std.proofs.Common.{◌≡◌, ℕ, ◌+◌, ◌<◌, ◌≤◌, List, Option, Some, None, refl, ap, sym, subst, arith, true, false}
use Rattle.host_events.specs.declared.event.ChildEvent.TheVariants as child
use Rattle.host_events.specs.declared.event.Event.{Event}
use Rattle.host_events.specs.declared.event.Event.TheVariants.{Child}
use Rattle.host_events.specs.declared.event.Event.TheVariants as event
use Rattle.host_events.specs.declared.outcome.Effect.{Effect}
use Rattle.host_events.specs.declared.outcome.Effect.TheVariants.{Start, Send, Kill}
use Rattle.host_events.specs.declared.outcome.Outcome.{Outcome}
use Rattle.host_events.specs.declared.reply.Reply.TheVariants as reply
use Rattle.block_tree.specs.declared.reason.Reason.{Reason}
use Rattle.block_tree.specs.declared.reason.Reason.TheVariants as reason
use Rattle.session_engine.specs.World.{World, Going, with_number, life_of}
use Rattle.session_engine.specs.Does.{Does, MayDo, ends_life, tells}
use Rattle.child_calls.specs.Calls.{Answer, done, fault, piece, end}
use Rattle.child_calls.specs.Calls as calls
use Rattle.child_edge.specs.Faithful.{due_of}
use Rattle.child_edge.specs.inside.Ranks.{rank, rank_of}

pub rank-none : (due : Option Event) → rank due ≤ 0 → due ≡ None
rank-none None h = refl
rank-none (Some (Child name life child.StartRefused)) h = absurd (omega arith)
rank-none (Some (Child name life child.StopFault)) h = absurd (omega arith)
rank-none (Some (Child name life child.SendFault)) h = absurd (omega arith)
rank-none (Some (Child name life (child.Piece p))) h = absurd (omega arith)
rank-none (Some (Child name life child.End)) h = absurd (omega arith)
rank-none (Some (Child name life child.ReadFault)) h = absurd (omega arith)
rank-none (Some (Child name life child.Stalled)) h = absurd (omega arith)
rank-none (Some (event.Command c)) h = absurd (omega arith)

-- a call's fault leads to two events at most
rank-due : (f : Option Effect) (a : Option Answer) → rank (due_of f a) ≤ 2
rank-due None a = omega arith
rank-due (Some (Start name life words)) None = omega arith
rank-due (Some (Start name life words)) (Some fault) = omega arith
rank-due (Some (Start name life words)) (Some done) = omega arith
rank-due (Some (Start name life words)) (Some (piece b)) = omega arith
rank-due (Some (Start name life words)) (Some end) = omega arith
rank-due (Some (Start name life words)) (Some calls.no_memory) = omega arith
rank-due (Some (Send name life bytes)) None = omega arith
rank-due (Some (Send name life bytes)) (Some fault) = omega arith
rank-due (Some (Send name life bytes)) (Some done) = omega arith
rank-due (Some (Send name life bytes)) (Some (piece b)) = omega arith
rank-due (Some (Send name life bytes)) (Some end) = omega arith
rank-due (Some (Send name life bytes)) (Some calls.no_memory) = omega arith
rank-due (Some (Kill name life)) None = omega arith
rank-due (Some (Kill name life)) (Some fault) = omega arith
rank-due (Some (Kill name life)) (Some done) = omega arith
rank-due (Some (Kill name life)) (Some (piece b)) = omega arith
rank-due (Some (Kill name life)) (Some end) = omega arith
rank-due (Some (Kill name life)) (Some calls.no_memory) = omega arith

rank-kill : (n : List ℕ) (l : ℕ) (a : Option Answer) → rank (due_of (Some (Kill n l)) a) ≤ 1
rank-kill n l None = omega arith
rank-kill n l (Some fault) = omega arith
rank-kill n l (Some done) = omega arith
rank-kill n l (Some (piece b)) = omega arith
rank-kill n l (Some end) = omega arith
rank-kill n l (Some calls.no_memory) = omega arith

-- nothing is due after a start that was refused, whether the life went on or not
rank-refused : (w : World) (l : Option Going) (d : Does) (a : Option Answer) → d ≡ ends_life w reason.StartRefused false l reply.Nothing → rank (due_of d.reported.effect a) < 1
rank-refused w None d a h = subst (λ (x : Does). rank (due_of x.reported.effect a) < 1) (sym h) (omega arith)
rank-refused w (Some l) d a h = subst (λ (x : Does). rank (due_of x.reported.effect a) < 1) (sym h) (omega arith)

-- after another end of a life only that it couldn't be stopped
rank-ended : (w : World) (l : Option Going) (why : Reason) (d : Does) (a : Option Answer) → d ≡ ends_life w why true l reply.Nothing → rank (due_of d.reported.effect a) < 2
rank-ended w None why d a h = subst (λ (x : Does). rank (due_of x.reported.effect a) < 2) (sym h) (omega arith)
rank-ended w (Some l) why d a h = subst (λ (x : Does). rank (due_of x.reported.effect a) < 2) (sym h) (omega (arith, rank-kill l.name l.number a))

rank-ignored : (w : World) (d : Does) (a : Option Answer) → d ≡ tells w reply.Nothing → rank (due_of d.reported.effect a) < 1
rank-ignored w d a h = subst (λ (x : Does). rank (due_of x.reported.effect a) < 1) (sym h) (omega arith)

-- what is due after an event is less than the event
due-rank : (w : World) (e : Event) (d : Does) (a : Option Answer) → MayDo w e d → rank (due_of d.reported.effect a) < rank_of e
due-rank w (event.Command c) d a h = omega (arith, rank-due d.reported.effect a)
due-rank w (Child name life child.StartRefused) d a h = rank-refused w (with_number life (life_of w name)) d a h
due-rank w (Child name life child.StopFault) d a h = rank-ignored w d a h
due-rank w (Child name life child.SendFault) d a h = rank-ended w (with_number life (life_of w name)) reason.SendFault d a h
due-rank w (Child name life (child.Piece p)) d a h = omega (arith, rank-due d.reported.effect a)
due-rank w (Child name life child.End) d a h = omega (arith, rank-due d.reported.effect a)
due-rank w (Child name life child.ReadFault) d a h = omega (arith, rank-due d.reported.effect a)
due-rank w (Child name life child.Stalled) d a h = omega (arith, rank-due d.reported.effect a)

-- of the outcome that is returned
pub rank-reported : (w : World) (e : Event) (d : Does) (o : Outcome) (a : Option Answer) → MayDo w e d → o ≡ d.reported → rank (due_of o.effect a) < rank_of e
rank-reported w e d o a may same = subst (λ (x : Outcome). rank (due_of x.effect a) < rank_of e) (sym same) (due-rank w e d a may)

pub rank-most : (e : Event) → rank_of e ≤ 3
rank-most (Child name life child.StartRefused) = omega arith
rank-most (Child name life child.StopFault) = omega arith
rank-most (Child name life child.SendFault) = omega arith
rank-most (Child name life (child.Piece p)) = omega arith
rank-most (Child name life child.End) = omega arith
rank-most (Child name life child.ReadFault) = omega arith
rank-most (Child name life child.Stalled) = omega arith
rank-most (event.Command c) = omega arith

pub rank-on : (due next d : Option Event) (e : Event) (k : ℕ) → due ≡ Some e → next ≡ d → rank d < rank_of e → rank due + k ≤ 3 → rank next + (k + 1) ≤ 3
rank-on due next d e k h n less few =
    let r : rank due ≡ rank_of e = ap rank h in
    let s : rank next ≡ rank d = ap rank n in
    omega (arith, r, s, less, few)

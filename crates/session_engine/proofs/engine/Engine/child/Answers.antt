use Rattle.std.proofs.Common.{sym, refl, subst}
use Rattle.host_events.specs.declared.event.ChildEvent.{ChildEvent}
use Rattle.host_events.specs.declared.reply.Reply.TheVariants as reply
use Rattle.session_engine.specs.World.{life_of, with_number}
use Rattle.session_engine.specs.Does.{ChildDoes, tells}
use Rattle.session_engine.proofs.engine.Engine.child.Goals as goal

pub returns-in-StopFault-clause-took : goal.returns-in-StopFault-clause-took
returns-in-StopFault-clause-took g c = λ w h. record {
  did = tells w reply.Nothing;
  may = subst (λ (e : ChildEvent). ChildDoes w (with_number c.args.life (life_of w c.args.name)) e (tells w reply.Nothing)) (sym c.in-StopFault.is) refl;
  reported = c.nothing.ensures;
  stands = record { works = refl; stands = h };
  disk = refl;
}

use Rattle.std.proofs.Common.{refl}
use Rattle.session_engine.specs.Does.{following}
use Rattle.child_edge.proofs.serving.entry.Goals as goal

pub returns-clause-ok : goal.returns-clause-ok
returns-clause-ok g c = λ w h.
    let s = c.in_ok-reply.ensures.ok w h in
    let k = c.carry_out-due.ensures in (
      record { event = c.args.event; outcome = c.in_ok-reply.field-0; answer = k.0 },
      following w s.did,
      record {
        event = refl;
        steps = (s.did, s.may, s.reported, refl);
        kept = record { same = c.in_ok-reply.ensures.same; moments = s.disk; holds = s.stands.stands.images };
        carried = k.1;
      },
      s.stands,
      refl,
      k.2,
    )

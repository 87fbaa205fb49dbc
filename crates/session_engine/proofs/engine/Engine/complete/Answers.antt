use Rattle.std.proofs.Common.{refl}
use Rattle.host_events.specs.declared.command.Command.TheVariants as command
use Rattle.host_events.specs.declared.reply.Reply.TheVariants as reply
use Rattle.session_engine.specs.Does.{tells}
use Rattle.session_engine.proofs.Completing.{request_refused}
use Rattle.session_engine.proofs.engine.Engine.complete.Goals as goal

pub returns-in-Err-clause-took : goal.returns-in-Err-clause-took
returns-in-Err-clause-took g c = λ w h. record {
  did = tells w (reply.Refused c.in-Err.refusal);
  may = request_refused w (command.Complete c.args.id c.args.cursor) c.in-Err.refusal (c.in-Err.ensures.err w h);
  reported = c.refused.ensures;
  stands = record { works = refl; stands = h };
  disk = refl;
}

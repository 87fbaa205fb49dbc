use Rattle.host_laws.proofs.OwnReplies.{each_command_has_a_reply}
use Rattle.host_laws.proofs.each_command_has_a_reply.Goals as goal

pub returns : goal.returns
returns c = each_command_has_a_reply

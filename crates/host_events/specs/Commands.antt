-- Which ops commands are, and what is replied to an op that is done.
use Rattle.std.specs.Prelude.{Option, Some, None}
use Rattle.worksheet.specs.declared.op.Op.{Op}
use Rattle.worksheet.specs.declared.op.Op.TheVariants as op
use Rattle.worksheet.specs.Contents.{Contents}
use Rattle.host_events.specs.declared.command.Command.{Command}
use Rattle.host_events.specs.declared.command.Command.TheVariants as command
use Rattle.host_events.specs.declared.reply.Reply.{Reply}
use Rattle.host_events.specs.declared.reply.Reply.TheVariants as reply

-- the op of a command that only changes the worksheet
abbrev pub op_of : Command → Option Op
op_of (command.Session name tab words) = Some (op.Session name tab words)
op_of (command.New after session input) = Some (op.New after session input)
op_of (command.Set id input) = Some (op.Set id input)
op_of (command.Remove id) = Some (op.Remove id)
op_of (command.Move id after) = Some (op.Move id after)
op_of (command.Clear id) = Some (op.Clear id)
op_of _ = None

-- the reply to an op that is done on this worksheet: the number of a new field, else that it was done
abbrev pub reply_to : Contents → Op → Reply
reply_to sheet (op.New after session input) = reply.Field sheet.next
reply_to sheet _ = reply.Done

-- What goes wrong by a reply. (docs/use/SCRIPT.md, "Strict runs".)
use Rattle.std.specs.Prelude.{◌==◌, Bool, true, false, not, Option, Some, None, length}
use Rattle.plugin_core.specs.declared.step.Ended.{Ended}
use Rattle.host_events.specs.declared.reply.Reply.{Reply}
use Rattle.host_events.specs.declared.reply.Reply.TheVariants as reply

-- items were lost at this end of a life
abbrev pub has_lost : Option Ended → Bool
has_lost None = false
has_lost (Some ended) = not (length ended.lost == 0)

-- a refusal, or the reply of a life by whose end items were lost
abbrev pub is_wrong : Reply → Bool
is_wrong reply.Done = false
is_wrong (reply.Field id) = false
is_wrong (reply.Asked number) = false
is_wrong (reply.Refused why) = true
is_wrong (reply.Child one) = has_lost one.ended
is_wrong reply.Nothing = false

use Rattle.std.proofs.Common.{take}
use Rattle.std.specs.Io.KnownBytes.{Appends}
use Rattle.offline_programs.specs.Memory.{replies_text}
use Rattle.tellings.proofs.in_words.write_events.Given as goal

abbrev pub invariant-loop-reply : goal.invariant-loop-reply
invariant-loop-reply g l = Appends (g.W.Write.contents l.initial.writer) (g.W.Write.contents l.writer) (replies_text (take l.reply-index l.replies))

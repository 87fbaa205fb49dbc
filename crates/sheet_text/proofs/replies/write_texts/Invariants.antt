use Rattle.std.proofs.Common.{take}
use Rattle.std.specs.Io.KnownBytes.{Appends}
use Rattle.sheet_text.specs.Replies.{spaced_texts}
use Rattle.sheet_text.proofs.replies.write_texts.Given as goal

abbrev pub invariant-loop-text : goal.invariant-loop-text
invariant-loop-text g l = Appends (g.W.Write.contents l.initial.out) (g.W.Write.contents l.out) (spaced_texts (take l.text-index l.texts))

use Rattle.std.proofs.Common.{take}
use Rattle.std.specs.Io.KnownBytes.{Appends}
use Rattle.sheet_export.specs.Script.{words_text}
use Rattle.sheet_export.proofs.script.write_words.Given as goal

abbrev pub invariant-loop-word : goal.invariant-loop-word
invariant-loop-word g l = Appends (g.W.Write.contents l.initial.out) (g.W.Write.contents l.out) (words_text (take l.word-index l.words))

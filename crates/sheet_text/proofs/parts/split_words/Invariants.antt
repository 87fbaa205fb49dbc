use Rattle.std.proofs.Common.{◌≡◌, ◌++◌, length}
use Rattle.std.specs.List.{slice_split}
use Rattle.sheet_text.specs.Script.{is_space}
use Rattle.sheet_text.proofs.parts.split_words.Given as goal

abbrev pub invariant-loop-words : goal.invariant-loop-words
invariant-loop-words l = l.words.items ++ slice_split is_space l.rest ≡ slice_split is_space l.bytes

abbrev pub decreases-loop-words : goal.decreases-loop-words
decreases-loop-words l = length l.rest

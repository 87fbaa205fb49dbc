use Rattle.std.proofs.Common.{◌≡◌, ◌+◌, ◌≤◌, min, length, drop}
use Rattle.std.specs.List.{flat_map}
use Rattle.recovery.specs.Code.{long, longest_reported}
use Rattle.recovery.proofs.size.with_words.Given as goal

abbrev pub invariant-loop-word : goal.invariant-loop-word
invariant-loop-word l = record {
  capped : l.len ≤ longest_reported;
  rest : min (l.len + length (flat_map long (drop l.word-index l.words))) longest_reported ≡ min (l.before + length (flat_map long l.words)) longest_reported;
}

use Rattle.std.proofs.Common.{◌≡◌, ◌++◌, ◌+◌, ◌≤◌, drop, length, vec_capacity, vec_len}
use Rattle.std.specs.List.{flat_map}
use Rattle.recovery.specs.Code.{long}
use Rattle.recovery.proofs.writing.put_words.Given as goal

abbrev pub invariant-loop-word : goal.invariant-loop-word
invariant-loop-word l = record {
  code : l.out.items ++ flat_map long (drop l.word-index l.words) ≡ l.initial.out.items ++ flat_map long l.words;
  size : vec_len l.out + length (flat_map long (drop l.word-index l.words)) ≡ vec_len l.initial.out + length (flat_map long l.words);
  capacity : vec_capacity l.initial.out ≤ vec_capacity l.out;
}

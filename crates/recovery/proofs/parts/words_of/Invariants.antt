use Rattle.std.proofs.Common.{◌≡◌, ◌-◌, length}
use Rattle.std.specs.List.{AllByRecursion}
use Rattle.recovery.specs.Code.{IsLong}
use Rattle.recovery.specs.inside.Reading.{words_at}
use Rattle.recovery.proofs.Words.{with_front}
use Rattle.recovery.proofs.parts.words_of.Given as goal

abbrev pub invariant-loop : goal.invariant-loop
invariant-loop l = record {
  read : with_front l.words.items (words_at (l.count - l.counter) l.rest) ≡ words_at l.count l.bytes;
  count : length l.words.items ≡ l.counter;
  long : AllByRecursion IsLong l.words.items;
}

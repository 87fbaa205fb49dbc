use Rattle.std.proofs.Common.{◌≡◌, ◌++◌, ◌∷◌, [], length-append, arith}
use Rattle.recovery.specs.inside.Reading.{words_at}
use Rattle.recovery.proofs.Words.{goes_on, ends, is_done, long_push}
use Rattle.recovery.proofs.parts.words_of.Goals as goal

pub returns-in_default-clause-read : goal.returns-in_default-clause-read
returns-in_default-clause-read c = ends c.loop.words.items c.args.count c.loop.counter c.loop.rest.now (words_at c.args.count c.args.bytes.now) c.loop-test.true c.in_default.ensures.read c.loop.invariant.read

pub loop-preserved : goal.loop-preserved
loop-preserved c =
    let word = c.in-Some.word.now in
    let pushed : c.push.new.self.items ≡ c.loop.words.items ++ word ∷ [] = grind arith in
    rw pushed (record {
      read = goes_on c.loop.words.items c.args.count c.loop.counter c.loop.rest.now word c.in-Some.after.now (words_at c.args.count c.args.bytes.now) c.loop-test.true c.in-Some.ensures.read c.loop.invariant.read;
      count = omega (arith, length-append c.loop.words.items (word ∷ []), c.loop.invariant.count);
      long = long_push c.loop.words.items word c.loop.invariant.long c.in-Some.ensures.long;
    })

pub returns-clause-read : goal.returns-clause-read
returns-clause-read c = rw c.from_vec.ensures (is_done c.loop.words.items c.args.count c.loop.counter c.loop.rest.now (words_at c.args.count c.args.bytes.now) c.loop-test.false c.loop.invariant.read)

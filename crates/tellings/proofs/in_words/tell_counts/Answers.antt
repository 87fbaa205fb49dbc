use Rattle.std.proofs.Common.{◌++◌}
use Rattle.std.proofs.KnownBytes.{Appends-kept, Appends-trans}
use Rattle.tellings.specs.Words.{answers_text, errors_text, overs_text}
use Rattle.tellings.proofs.in_words.tell_counts.Goals as goal

pub returns-clause-ok : goal.returns-clause-ok
returns-clause-ok g c =
    let a = g.W.Write.contents c.args.writer.now in
    let b = g.W.Write.contents c.write_answers.new.writer in
    let d = g.W.Write.contents c.write_errors.new.writer in
    let e = g.W.Write.contents c.write_overs.new.writer in
    let counts = c.args.counts in
    let to_errors = Appends-trans a b d (answers_text counts) (errors_text counts.errors) c.in_ok-write_answers.ensures.ok c.in_ok-write_errors.ensures.ok in
    let to_overs = Appends-trans a d e (answers_text counts ++ errors_text counts.errors) (overs_text counts.overs) to_errors c.in_ok-write_overs.ensures.ok in
    Appends-kept a e (g.W.Write.contents c.flush.new.self) (answers_text counts ++ errors_text counts.errors ++ overs_text counts.overs) to_overs c.flush.ensures.bytes

use Rattle.std.proofs.Common.{[], ◌∷◌, ◌++◌}
use Rattle.std.proofs.KnownBytes.{Appends-trans}
use Rattle.check_report.specs.Words.{compared_part, errors_part, left_out_part, new_part}
use Rattle.check_report.proofs.words.write_counts.Goals as goal

pub returns : goal.returns
returns g c =
    let a = g.W.Write.contents c.args.writer.now in
    let b = g.W.Write.contents c.write_compared.new.writer in
    let d = g.W.Write.contents c.write_left_out.new.writer in
    let e = g.W.Write.contents c.write_errors.new.writer in
    let f = g.W.Write.contents c.write_new.new.writer in
    let h = g.W.Write.contents c.write_bytes.new.out in
    let compared = compared_part c.args.counts in
    let left_out = left_out_part c.args.counts.left_out in
    let errors = errors_part c.args.counts.errors in
    let new = new_part c.args.counts.new in
    Appends-trans a f h (compared ++ left_out ++ errors ++ new) (10 ∷ []) (Appends-trans a e f (compared ++ left_out ++ errors) new (Appends-trans a d e (compared ++ left_out) errors
    (Appends-trans a b d compared left_out c.in_ok-write_compared.ensures c.in_ok-write_left_out.ensures) c.in_ok-write_errors.ensures) c.in_ok-write_new.ensures) c.in_ok-write_bytes.ensures

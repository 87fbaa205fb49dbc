use Rattle.std.proofs.Common.{subst}
use Rattle.std.proofs.KnownBytes.{Appends-trans}
use Rattle.std.specs.Prelude.{List, ℕ}
use Rattle.std.specs.Io.KnownBytes.{Appends}
use Rattle.check_report.specs.inside.Closing.{first_part, second_part}
use Rattle.check_report.proofs.JsonLines.{closing_is}
use Rattle.check_report.proofs.objects.write_end.Goals as goal

pub returns : goal.returns
returns g c =
    let a = g.W.Write.contents c.args.out.now in
    let b = g.W.Write.contents c.write_first_part.new.out in
    let d = g.W.Write.contents c.write_second_part.new.out in
    subst (λ (t : List ℕ). Appends a d t) (closing_is c.args.counts) (Appends-trans a b d (first_part c.args.counts) (second_part c.args.counts) c.in_ok-write_first_part.ensures c.in_ok-write_second_part.ensures)

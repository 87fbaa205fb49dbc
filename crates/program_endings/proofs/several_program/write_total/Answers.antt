use Rattle.std.proofs.KnownBytes.{Appends-trans}
use Rattle.std.proofs.Common.{[], ◌∷◌, ◌++◌}
use Rattle.check_report.specs.Words.{errors_part, new_part}
use Rattle.program_endings.specs.SeveralProgram.{faults_part, summed_part}
use Rattle.program_endings.proofs.several_program.write_total.Goals as goal

pub returns : goal.returns
returns g c =
    let contents = g.W.Write.contents in
    let before = contents c.args.out.now in
    let summed = contents c.write_summed.new.out in
    let erring = contents c.write_errors.new.out in
    let adding = contents c.write_new.new.out in
    let counted = contents c.write_faults.new.out in
    let written = contents c.write_and_flush.new.writer in
    let sums = summed_part c.args.total in
    let errors = errors_part c.args.total.errors in
    let new = new_part c.args.total.new in
    let faults = faults_part c.args.total.faults in
    let to_errors = Appends-trans before summed erring sums errors c.in_ok-write_summed.ensures c.in_ok-write_errors.ensures in
    let to_new = Appends-trans before erring adding (sums ++ errors) new to_errors c.in_ok-write_new.ensures in
    Appends-trans before counted written (sums ++ errors ++ new ++ faults) (10 ∷ [])
    (Appends-trans before adding counted (sums ++ errors ++ new) faults to_new c.in_ok-write_faults.ensures) c.in_ok-write_and_flush.ensures

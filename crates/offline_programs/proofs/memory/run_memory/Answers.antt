use Rattle.std.proofs.Common.{ap, arith, length}
use Rattle.offline_programs.proofs.Scripting.{script-few}
use Rattle.offline_programs.proofs.memory.run_memory.Goals as goal

pub do_lines-requires-clause-few : goal.do_lines-requires-clause-few
do_lines-requires-clause-few g c =
    let short = c.in_ok-script.ensures.short in
    let same = ap length c.as_slice.ensures.value in
    omega (arith, script-few c.as_slice.result.now, same, short)

use Rattle.std.proofs.Common.{◌≡◌, ◌+◌, length}
use Rattle.offline_programs.specs.Memory.{script_lines}
use Rattle.offline_programs.proofs.Scripting.{SoFar}
use Rattle.offline_programs.proofs.memory.do_lines.Given as goal

abbrev pub invariant-loop-line : goal.invariant-loop-line
invariant-loop-line g l = record {
  count : l.number + length l.lines ≡ length (script_lines l.fn.script);
  so_far : SoFar (g.W.Write.contents l.fn.writer) (g.W.Write.contents l.writer) l.sheet.contents l.number l.lines (script_lines l.fn.script);
}

abbrev pub decreases-loop-line : goal.decreases-loop-line
decreases-loop-line g l = length l.lines

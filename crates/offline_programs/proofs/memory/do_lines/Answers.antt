use Rattle.std.proofs.Common.{ap, sym, subst, length, arith}
use Rattle.offline_programs.specs.Memory.{script_lines}
use Rattle.offline_programs.proofs.Scripting.{nothing_so_far, one_more, all_done, SoFar}
use Rattle.offline_programs.proofs.memory.do_lines.Goals as goal

pub loop-line-init : goal.loop-line-init
loop-line-init g c =
    let all = ap length c.lines-lines.ensures.value in
    let start = g.W.Write.contents c.args.writer.now in
    record {
      count = omega (arith, all);
      so_far = subst (λ ls. SoFar start start c.args.sheet.now.contents 0 ls (script_lines c.args.script.now)) (sym c.lines-lines.ensures.value)
          (nothing_so_far start c.args.sheet.now.contents (script_lines c.args.script.now) c.requires.empty);
    }

pub loop-line-preserved : goal.loop-line-preserved
loop-line-preserved g c =
    let one = ap length c.in-Some.ensures.steps in
    let so = c.loop-line.invariant.so_far in
    let ran = c.in_ok-do_line.ensures.ok so.ops so.stands in
    record {
      count = omega (arith, one, c.loop-line.invariant.count);
      so_far = one_more (g.W.Write.contents c.args.writer.now) (g.W.Write.contents c.loop-line.writer) (g.W.Write.contents c.do_line.new.writer) c.loop-line.sheet.contents c.do_line.new.sheet.contents c.loop-line.number c.loop-line.lines c.in-Some.line.now c.next.new.self
          (script_lines c.args.script.now) c.in-Some.ensures.steps so ran.0 ran.1 ran.2 ran.3 ran.4;
    }

pub returns-clause-ok : goal.returns-clause-ok
returns-clause-ok g c =
    all_done (g.W.Write.contents c.args.writer.now) (g.W.Write.contents c.loop-line.writer) c.loop-line.sheet.contents c.loop-line.number c.loop-line.lines (script_lines c.args.script.now) c.in_default.ensures.steps.0 c.loop-line.invariant.so_far

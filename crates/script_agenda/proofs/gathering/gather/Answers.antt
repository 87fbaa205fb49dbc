use Rattle.std.proofs.Common.{ap, arith, length, refl}
use Rattle.script_agenda.proofs.Gatherings.{none_gathered, one_gathered}
use Rattle.script_agenda.proofs.gathering.gather.Goals as goal

pub loop-alloc-init : goal.loop-alloc-init
loop-alloc-init c = record {
  gathers = none_gathered c.args.strict c.args.lines.now c.new-edits.result c.new-edits.ensures;
  count = refl;
  few = omega (arith, ap length c.new-edits.ensures);
}

pub loop-alloc-preserved : goal.loop-alloc-preserved
loop-alloc-preserved c =
    let one = c.in-Some.ensures.some in
    let fewer = ap length one.1 in
    record {
      gathers = one_gathered c.args.strict c.args.lines.now c.loop-alloc.lines c.gather_one.new.lines one.0 c.loop-alloc.edits c.gather_one.new.edits c.loop-alloc.invariant.gathers one.1 one.2 one.3;
      count = omega (arith, fewer, c.loop-alloc.invariant.count);
      few = omega (arith, c.gather_one.ensures.more, c.loop-alloc.invariant.few, c.len.ensures.len);
    }

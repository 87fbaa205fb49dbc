use Rattle.std.proofs.Common.{ap, arith, length, refl, ◌∙◌}
use Rattle.live.proofs.Gatherings.{none_gathered, one_gathered}
use Rattle.line_agenda.proofs.gathering.gather.Goals as goal

pub loop-init : goal.loop-init
loop-init g c =
    let none = ap length c.new-events.ensures.items in
    record { gathered = none_gathered c.args.lines.now.held c.new-events.result.items c.new-events.ensures.items; few = omega (arith, none); reader = refl }

pub loop-preserved : goal.loop-preserved
loop-preserved g c = record {
  gathered = one_gathered c.args.lines.now.held c.loop.lines.held c.gather_one.new.lines.held c.loop.events.items c.gather_one.new.events.items c.loop.invariant.gathered (c.gather_one.ensures.one c.if-not-gather_one.false);
  few = omega (arith, c.loop.invariant.few, c.gather_one.ensures.more);
  reader = c.gather_one.ensures.reader ∙ c.loop.invariant.reader;
}

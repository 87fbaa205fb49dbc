use Rattle.std.proofs.Common.{◌-◌, refl, ◌∙◌, subst, arith}
use Rattle.disk_model.specs.Disk.{Image, InModel, area_of, bytes_on}
use Rattle.disk_model.specs.declared.disk.Area.{Area}
use Rattle.journal.specs.inside.Window.{Shows}
use Rattle.journal.specs.declared.walk.GateContent.TheVariants as steps
use Rattle.journal.proofs.Readings.{none_read, reads_on, so_before}
use Rattle.journal.proofs.Walks.{at_first, closed_here, damaged_here, reached_on, step_here}
use Rattle.journal.proofs.walk.walk_gates.Goals as goal

pub loop-cause-init : goal.loop-cause-init
loop-cause-init g c = record {
  from = omega arith;
  inside = c.requires.some;
  area = refl;
  limit = refl;
  reads = none_read (g.D.Disk.view c.args.disk.now);
  shows = c.requires.shows;
  reached = λ model. at_first _ (c.requires.header model);
}

pub returns-in-Err-clause-reads : goal.returns-in-Err-clause-reads
returns-in-Err-clause-reads g c = reads_on _ _ _ _ c.loop-cause.invariant.reads c.in-Err.ensures.reads

pub returns-in-End-clause-reads : goal.returns-in-End-clause-reads
returns-in-End-clause-reads g c = reads_on ⊥ _ _ _ c.loop-cause.invariant.reads c.in_default.ensures.reads

pub returns-in-Broken-clause-reads : goal.returns-in-Broken-clause-reads
returns-in-Broken-clause-reads g c = reads_on ⊥ _ _ _ c.loop-cause.invariant.reads c.in_default.ensures.reads

pub returns-in-End-clause-front : goal.returns-in-End-clause-front
returns-in-End-clause-front g c = λ model.
    let old = g.D.Disk.view c.args.disk.now in
    let shows = so_before (λ (i : Image). Shows c.fill.new.self (area_of c.args.window.now.area i)) ⊥ old (g.D.Disk.view c.loop-cause.disk) c.loop-cause.invariant.reads (subst (λ (a : Area). InModel (g.D.Disk.view c.loop-cause.disk) (Shows c.fill.new.self (area_of a (bytes_on (g.D.Disk.view c.loop-cause.disk))))) c.loop-cause.invariant.area c.in_default.ensures.shows) model in
    let step = step_here c.fill.new.self (area_of c.args.window.now.area (bytes_on old)) c.loop-cause.gate (c.loop-cause.window.limit - c.loop-cause.gate) c.following.result.now steps.End shows (omega (arith, c.fill.ensures.limit)) (omega (arith, c.fill.ensures.limit, c.loop-cause.invariant.inside)) c.in-End.ensures.step c.following.ensures.shows in
    closed_here _ _ step.0 step.1 (c.loop-cause.invariant.reached model) step.2 step.3

pub returns-in-Broken-clause-front : goal.returns-in-Broken-clause-front
returns-in-Broken-clause-front g c = λ model.
    let old = g.D.Disk.view c.args.disk.now in
    let shows = so_before (λ (i : Image). Shows c.fill.new.self (area_of c.args.window.now.area i)) ⊥ old (g.D.Disk.view c.loop-cause.disk) c.loop-cause.invariant.reads (subst (λ (a : Area). InModel (g.D.Disk.view c.loop-cause.disk) (Shows c.fill.new.self (area_of a (bytes_on (g.D.Disk.view c.loop-cause.disk))))) c.loop-cause.invariant.area c.in_default.ensures.shows) model in
    let step = step_here c.fill.new.self (area_of c.args.window.now.area (bytes_on old)) c.loop-cause.gate (c.loop-cause.window.limit - c.loop-cause.gate) c.following.result.now steps.Broken shows (omega (arith, c.fill.ensures.limit)) (omega (arith, c.fill.ensures.limit, c.loop-cause.invariant.inside)) c.in-Broken.ensures.step c.following.ensures.shows in
    damaged_here _ _ step.0 (c.loop-cause.invariant.reached model) step.1 step.2

pub loop-cause-preserved : goal.loop-cause-preserved
loop-cause-preserved g c =
    let old = g.D.Disk.view c.args.disk.now in
    let shows = so_before (λ (i : Image). Shows c.fill.new.self (area_of c.args.window.now.area i)) ⊥ old (g.D.Disk.view c.loop-cause.disk) c.loop-cause.invariant.reads (subst (λ (a : Area). InModel (g.D.Disk.view c.loop-cause.disk) (Shows c.fill.new.self (area_of a (bytes_on (g.D.Disk.view c.loop-cause.disk))))) c.loop-cause.invariant.area c.in_default.ensures.shows) in
    record {
      from = omega (arith, c.loop-cause.invariant.from);
      inside = omega (arith, c.fill.ensures.limit, c.loop-cause.invariant.inside, c.in-Record.ensures.len.2);
      area = c.fill.ensures.area ∙ c.loop-cause.invariant.area;
      limit = c.fill.ensures.limit ∙ c.loop-cause.invariant.limit;
      reads = reads_on ⊥ _ _ _ c.loop-cause.invariant.reads c.in_default.ensures.reads;
      shows = shows;
      reached = λ model.
          let step = step_here c.fill.new.self (area_of c.args.window.now.area (bytes_on old)) c.loop-cause.gate (c.loop-cause.window.limit - c.loop-cause.gate) c.following.result.now (steps.Record c.in-Record.len) (shows model) (omega (arith, c.fill.ensures.limit)) (omega (arith, c.fill.ensures.limit, c.loop-cause.invariant.inside)) c.in-Record.ensures.step c.following.ensures.shows in
          reached_on _ _ _ step.0 (c.loop-cause.invariant.reached model) step.1 step.2 step.3 step.4;
    }

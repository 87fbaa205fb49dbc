use Rattle.std.proofs.Common.{◌∙◌, ap, subst, arith, length}
use Rattle.disk_model.specs.Disk.{Image, InModel, area_of, bytes_on}
use Rattle.disk_model.specs.declared.disk.Area.{Area}
use Rattle.journal.specs.inside.Window.{Shows}
use Rattle.journal.proofs.Readings.{none_read, reads_on, so_before, unfailed}
use Rattle.journal.proofs.Windows.{begins_none, more_fits, more_read}
use Rattle.journal.proofs.window.Window.copy.Goals as goal

pub loop-bytes-init : goal.loop-bytes-init
loop-bytes-init g c = record {
  short = omega (arith, ap length c.in-Ok.ensures.items);
  area = c.in-Ok.ensures.area;
  limit = c.in-Ok.ensures.limit;
  reads = none_read (g.D.Disk.view c.args.disk.now);
  shows = λ model. c.in-Ok.ensures.shows (area_of c.args.self.now.area (bytes_on (g.D.Disk.view c.args.disk.now))) (c.requires.shows model);
  begins = λ model. begins_none _ _ c.in-Ok.ensures.items;
}

pub returns-in-Err-clause-reads : goal.returns-in-Err-clause-reads
returns-in-Err-clause-reads g c = reads_on _ _ _ _ c.loop-bytes.invariant.reads c.in-Err.ensures.reads

pub returns-in-Err-extend_from_slice-clause-reads : goal.returns-in-Err-extend_from_slice-clause-reads
returns-in-Err-extend_from_slice-clause-reads g c = unfailed _ _ _ (λ wrong. cc) (reads_on ⊥ _ _ _ c.loop-bytes.invariant.reads c.in_default-fill.ensures.reads)

pub loop-bytes-preserved : goal.loop-bytes-preserved
loop-bytes-preserved g c =
    let old = g.D.Disk.view c.args.disk.now in
    let shows = so_before (λ (i : Image). Shows c.fill.new.self (area_of c.args.self.now.area i)) ⊥ old (g.D.Disk.view c.loop-bytes.disk) c.loop-bytes.invariant.reads (subst (λ (a : Area). InModel (g.D.Disk.view c.loop-bytes.disk) (Shows c.fill.new.self (area_of a (bytes_on (g.D.Disk.view c.loop-bytes.disk))))) c.loop-bytes.invariant.area c.in_default-fill.ensures.shows) in
    record {
      short = more_fits c.loop-bytes.bytes.items c.following.result.now c.front_of-part.result.now _ c.len-in-loop-bytes-2.result c.args.len (omega (arith, c.len-in-loop-bytes-2.ensures, c.loop-bytes.bytes.ok.0)) (omega (arith, c.len-in-loop-bytes-2.ensures, c.loop-bytes-test.true)) c.front_of-part.ensures c.in_default-extend_from_slice.ensures.items;
      area = c.fill.ensures.area ∙ c.loop-bytes.invariant.area;
      limit = c.fill.ensures.limit ∙ c.loop-bytes.invariant.limit;
      reads = reads_on ⊥ _ _ _ c.loop-bytes.invariant.reads c.in_default-fill.ensures.reads;
      shows = shows;
      begins = λ model.
          more_read (area_of c.args.self.now.area (bytes_on old)) c.loop-bytes.bytes.items c.following.result.now c.front_of-part.result.now _ c.args.at c.len-in-loop-bytes.result _ (omega (arith, c.len-in-loop-bytes.ensures, c.loop-bytes.bytes.ok.0)) c.front_of-part.ensures c.in_default-extend_from_slice.ensures.items
          (c.loop-bytes.invariant.begins model) (c.following.ensures.shows (area_of c.args.self.now.area (bytes_on old)) (shows model));
    }

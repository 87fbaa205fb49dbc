use Rattle.std.proofs.Common.{◌≡◌, rules, length, true, false, refl}
use Rattle.recovery.specs.Code.{code_of}
use Rattle.recovery.proofs.Commits.{adds_from, breaks_from, commits_from, unchanged}
use Rattle.recovery.proofs.Images.{stays_either, stays_other}
use Rattle.recovery.specs.Sheets.{HasPlace}
use Rattle.recovery.proofs.Kept.{place_before, stays_kept}
use Rattle.recovery.proofs.store.Store.commit.Goals as goal

pub returns-in-Err-Closed-clause-commits : goal.returns-in-Err-Closed-clause-commits
returns-in-Err-Closed-clause-commits g c =
    let closed : c.args.self.now.closed ≡ true = search (rules) in
    unchanged c.args.self.now c.prepare.new.self c.args.op _ c.prepare.ensures.store c.prepare.ensures.same (closed, c.prepare.ensures.same)

pub returns-in-Err-Full-clause-commits : goal.returns-in-Err-Full-clause-commits
returns-in-Err-Full-clause-commits g c =
    let full : (c.args.self.now.closed ≡ false) × (HasPlace c.args.self.now (length (code_of c.args.op)) → ⊥) = search (rules) in
    unchanged c.args.self.now c.prepare.new.self c.args.op _ c.prepare.ensures.store c.prepare.ensures.same (full.0, full.1, refl, c.prepare.ensures.same)

pub returns-in-Err-OutOfMemory-clause-commits : goal.returns-in-Err-OutOfMemory-clause-commits
returns-in-Err-OutOfMemory-clause-commits g c =
    let place : HasPlace c.args.self.now (length (code_of c.args.op)) = search (rules) in
    unchanged c.args.self.now c.prepare.new.self c.args.op _ c.prepare.ensures.store c.prepare.ensures.same (place, refl, c.prepare.ensures.same)

pub returns-in-Err-Full-clause-any_moment : goal.returns-in-Err-Full-clause-any_moment
returns-in-Err-Full-clause-any_moment g c = λ model is_open. stays_either c.args.self.now.disk c.prepare.new.self.disk c.args.self.now.sheet.contents c.args.op c.prepare.ensures.same.disk (c.prepare.ensures.store.images model is_open)

pub returns-in-Err-OutOfMemory-clause-any_moment : goal.returns-in-Err-OutOfMemory-clause-any_moment
returns-in-Err-OutOfMemory-clause-any_moment g c = λ model is_open. stays_either c.args.self.now.disk c.prepare.new.self.disk c.args.self.now.sheet.contents c.args.op c.prepare.ensures.same.disk (c.prepare.ensures.store.images model is_open)

pub returns-in-Err-Full-clause-payloads : goal.returns-in-Err-Full-clause-payloads
returns-in-Err-Full-clause-payloads g c = λ model ops kept. stays_kept c.args.self.now c.prepare.new.self c.args.op ops c.prepare.ensures.same kept

pub returns-in-Err-OutOfMemory-clause-payloads : goal.returns-in-Err-OutOfMemory-clause-payloads
returns-in-Err-OutOfMemory-clause-payloads g c = λ model ops kept. stays_kept c.args.self.now c.prepare.new.self c.args.op ops c.prepare.ensures.same kept

pub returns-in-Err-Full-clause-others : goal.returns-in-Err-Full-clause-others
returns-in-Err-Full-clause-others g c = λ model. stays_other c.args.self.now.disk c.prepare.new.self.disk c.prepare.ensures.same.disk

pub returns-in-Err-OutOfMemory-clause-others : goal.returns-in-Err-OutOfMemory-clause-others
returns-in-Err-OutOfMemory-clause-others g c = λ model. stays_other c.args.self.now.disk c.prepare.new.self.disk c.prepare.ensures.same.disk

pub returns-in-Ok-commit_ready-clause-commits : goal.returns-in-Ok-commit_ready-clause-commits
returns-in-Ok-commit_ready-clause-commits g c =
    let old = c.args.self.now in
    let mid = c.prepare.new.self in
    let new = c.commit_ready.new.self in
    let same = c.prepare.ensures.same in
    let done = c.in-Ok-commit_ready.ensures in
    let adds = adds_from old mid new c.args.op same (record {
      still_open = done.open;
      end = done.ends;
      faults = done.steady;
      contents = done.sheet;
      kept = done.kept;
      images = done.acknowledged;
      real = done.real;
    }) in
    commits_from old mid new c.args.op same _ (place_before old mid (length (code_of c.args.op)) same c.in-Ok.ensures.ready.fits, adds) done.same
    (λ model. record { sheets = λ opened. done.any_moment model; payloads = done.payloads model; others = done.others model }) done.other

pub returns-in-Err-clause-commits : goal.returns-in-Err-clause-commits
returns-in-Err-clause-commits g c =
    let old = c.args.self.now in
    let mid = c.prepare.new.self in
    let new = c.commit_ready.new.self in
    let same = c.prepare.ensures.same in
    let failed = c.in-Err.ensures in
    let breaks = breaks_from old mid new same (record {
      contents = failed.as_before;
      closed = failed.closed.0;
      faults = failed.closed.1;
    }) in
    commits_from old mid new c.args.op same _ (place_before old mid (length (code_of c.args.op)) same c.in-Ok.ensures.ready.fits, breaks) failed.same
    (λ model. record { sheets = λ opened. failed.any_moment model; payloads = failed.payloads model; others = failed.others model }) failed.other

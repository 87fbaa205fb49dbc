use Rattle.std.proofs.Common.{◌≡◌, rules, sym, subst, Option}
use Rattle.disk_model.specs.Disk.{LeavesOnly}
use Rattle.worksheet.specs.declared.op.Op.{Op}
use Rattle.worksheet.specs.declared.op.Op.TheVariants as op
use Rattle.worksheet.specs.declared.refusal.Refusal.{Refusal}
use Rattle.worksheet.specs.declared.refusal.Refusal.TheVariants as refusal
use Rattle.session_engine.specs.inside.Commits.{Commits, Committed, IsEitherIf, NotCommitted}
use Rattle.session_engine.proofs.Losing.{kept_fits, unlost_for_disk, unlost_for_memory}
use Rattle.session_engine.proofs.commits.lose.Goals as goal

pub returns-in-Err-clause-moments : goal.returns-in-Err-clause-moments
returns-in-Err-clause-moments g c = λ model ops is.
    subst (λ (p : Option Op). LeavesOnly (IsEitherIf ops p) c.args.store.now.disk.history c.commit.new.store.disk.history)
    (sym (kept_fits c.args.store.now.disk.room c.args.store.now.end c.args.reason c.args.line c.in-Some.id c.in-Some.is c.in-Err.ensures.fits)) (c.commit.ensures.moments model ops is)

pub returns-in-Ok-None-clause-moments : goal.returns-in-Ok-None-clause-moments
returns-in-Ok-None-clause-moments g c = λ model ops is.
    let done : Committed c.args.store.now ops (op.Lost c.in-Some.id c.args.reason) c.commit.new.store =
    subst (λ (r : Option Refusal). Commits c.args.store.now ops (op.Lost c.in-Some.id c.args.reason) c.commit.new.store r) c.in-Ok-None.field-0-is (c.in-Ok-None.ensures.ok ops is) in
    subst (λ (p : Option Op). LeavesOnly (IsEitherIf ops p) c.args.store.now.disk.history c.commit.new.store.disk.history)
    (sym (kept_fits c.args.store.now.disk.room c.args.store.now.end c.args.reason c.args.line c.in-Some.id c.in-Some.is done.fits)) (c.commit.ensures.moments model ops is)

pub returns-in-Err-clause-fault : goal.returns-in-Err-clause-fault
returns-in-Err-clause-fault g c =
    unlost_for_disk c.args.store.now c.commit.new.store c.args.reason c.args.line c.in-Some.id c.in-Some.is c.in-Err.ensures.fits c.in-Err.ensures.err.0 c.in-Err.ensures.err.1

pub returns-in-Ok-Some-clause-fault : goal.returns-in-Ok-Some-clause-fault
returns-in-Ok-Some-clause-fault g c =
    let n : NotCommitted c.args.store.now (op.Lost c.in-Some.id c.args.reason) c.commit.new.store c.in-Ok-Some.field-0-0 = search rules in
    let other : c.in-Ok-Some.field-0-0 ≡ refusal.JournalFull → ⊥ = search rules in
    unlost_for_memory c.args.store.now c.commit.new.store c.args.reason c.args.line c.in-Some.id c.in-Ok-Some.field-0-0 c.in-Some.is n other

pub returns-in-Ok-None-clause-same : goal.returns-in-Ok-None-clause-same
returns-in-Ok-None-clause-same g c = c.commit.ensures.same

pub returns-in-Ok-None-clause-gathers : goal.returns-in-Ok-None-clause-gathers
returns-in-Ok-None-clause-gathers g c = c.commit.ensures.gathers

pub returns-in-Ok-None-clause-fault : goal.returns-in-Ok-None-clause-fault
returns-in-Ok-None-clause-fault g c = tt

pub returns-in-Ok-Some-JournalFull-clause-same : goal.returns-in-Ok-Some-JournalFull-clause-same
returns-in-Ok-Some-JournalFull-clause-same g c = c.commit.ensures.same

pub returns-in-Ok-Some-JournalFull-clause-gathers : goal.returns-in-Ok-Some-JournalFull-clause-gathers
returns-in-Ok-Some-JournalFull-clause-gathers g c = c.commit.ensures.gathers

pub returns-in-Ok-Some-JournalFull-clause-fault : goal.returns-in-Ok-Some-JournalFull-clause-fault
returns-in-Ok-Some-JournalFull-clause-fault g c = tt

pub returns-in-Err-clause-same : goal.returns-in-Err-clause-same
returns-in-Err-clause-same g c = c.commit.ensures.same

pub returns-in-Err-clause-gathers : goal.returns-in-Err-clause-gathers
returns-in-Err-clause-gathers g c = c.commit.ensures.gathers

pub returns-in-Err-clause-ok : goal.returns-in-Err-clause-ok
returns-in-Err-clause-ok g c = λ ops is. tt

pub returns-in_default-clause-fault : goal.returns-in_default-clause-fault
returns-in_default-clause-fault g c = tt

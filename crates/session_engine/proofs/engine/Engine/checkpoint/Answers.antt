use Rattle.std.proofs.Common.{sym, subst, Err}
use Rattle.recovery.specs.Checkpointed.{CheckpointAnswers}
use Rattle.recovery.specs.declared.fault.CheckpointFault.{CheckpointFault}
use Rattle.host_events.specs.declared.outcome.Outcome.{Outcome}
use Rattle.session_engine.specs.inside.Engines.{TookAt}
use Rattle.session_engine.proofs.Renewals.{checkpoint_done, checkpoint_fails, checkpoint_full, checkpoint_wants, the_checkpoint}
use Rattle.session_engine.proofs.engine.Engine.checkpoint.Goals as goal

pub returns-in-Ok-clause-took : goal.returns-in-Ok-clause-took
returns-in-Ok-clause-took g c = λ w h.
    checkpoint_done c.args.self.now.store c.checkpoint.new.self c.args.self.now.lives.items c.args.self.now.begun w h c.checkpoint.ensures.same c.checkpoint.ensures.sheet c.checkpoint.ensures.any_moment c.in-Ok.ensures.answers

pub returns-in-Err-Full-clause-took : goal.returns-in-Err-Full-clause-took
returns-in-Err-Full-clause-took g c = λ w h.
    let answers = subst (λ (x : CheckpointFault). CheckpointAnswers c.args.self.now.store c.checkpoint.new.self (Err x)) c.in-Err-Full.field-0-is c.in-Err-Full.ensures.answers in
    subst (λ (o : Outcome). TookAt w the_checkpoint c.args.self.now (record c.args.self.now { store = c.checkpoint.new.self }) o) (sym c.refused.ensures)
    (checkpoint_full c.args.self.now.store c.checkpoint.new.self c.args.self.now.lives.items c.args.self.now.begun w h c.checkpoint.ensures.same c.checkpoint.ensures.sheet c.checkpoint.ensures.any_moment answers)

pub returns-in-Err-OutOfMemory-clause-took : goal.returns-in-Err-OutOfMemory-clause-took
returns-in-Err-OutOfMemory-clause-took g c = λ w h.
    let answers = subst (λ (x : CheckpointFault). CheckpointAnswers c.args.self.now.store c.checkpoint.new.self (Err x)) c.in-Err-OutOfMemory.field-0-is c.in-Err-OutOfMemory.ensures.answers in
    subst (λ (o : Outcome). TookAt w the_checkpoint c.args.self.now (record c.args.self.now { store = c.checkpoint.new.self }) o) (sym c.refused-in-Err-OutOfMemory.ensures)
    (checkpoint_wants c.args.self.now.store c.checkpoint.new.self c.args.self.now.lives.items c.args.self.now.begun w h c.checkpoint.ensures.same c.checkpoint.ensures.sheet c.checkpoint.ensures.any_moment answers)

pub returns-in-Err-Disk-clause-failed : goal.returns-in-Err-Disk-clause-failed
returns-in-Err-Disk-clause-failed g c = λ w h.
    let answers = subst (λ (x : CheckpointFault). CheckpointAnswers c.args.self.now.store c.checkpoint.new.self (Err x)) c.in-Err-Disk.field-0-is c.in-Err-Disk.ensures.answers in
    checkpoint_fails c.args.self.now.store c.checkpoint.new.self c.args.self.now.lives.items c.args.self.now.begun w h c.checkpoint.ensures.same c.checkpoint.ensures.sheet c.checkpoint.ensures.any_moment answers

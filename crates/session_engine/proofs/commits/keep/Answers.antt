use Rattle.std.proofs.Common.{ap, rules, sym, ◌∙◌, subst, Option, Some}
use Rattle.disk_model.specs.Disk.{LeavesOnly}
use Rattle.worksheet.specs.declared.op.Op.TheVariants as op
use Rattle.worksheet.specs.declared.refusal.Refusal.TheVariants as refusal
use Rattle.plugin_core.specs.declared.step.Answered.{Answered}
use Rattle.session_engine.specs.Does.{op_by}
use Rattle.session_engine.specs.inside.Commits.{IsEitherIf, NotCommitted, NotKept, NotLost, unkept_in_memory, unkept_in_room, unkept_on_disk}
use Rattle.host_events.specs.declared.outcome.HostFault.TheVariants as hosts
use Rattle.session_engine.proofs.Losing.{refused_room, unkept_for_disk, unkept_for_memory}
use Rattle.session_engine.proofs.commits.keep.Goals as goal

pub returns-in-Ok-None-clause-moments : goal.returns-in-Ok-None-clause-moments
returns-in-Ok-None-clause-moments g c = λ model ops is.
    subst (λ (a : Option Answered). LeavesOnly (IsEitherIf ops (op_by c.args.store.now.disk.room c.args.store.now.end a c.args.ended.now)) c.args.store.now.disk.history c.commit.new.store.disk.history)
    (sym (c.in-Some-Line.is ∙ ap (λ (a : Answered). Some a) c.in-Some-Line.field-0-is)) (c.commit.ensures.moments model ops is)

pub returns-in-Some-Line-clause-moments : goal.returns-in-Some-Line-clause-moments
returns-in-Some-Line-clause-moments g c = λ model ops is.
    subst (λ (a : Option Answered). LeavesOnly (IsEitherIf ops (op_by c.args.store.now.disk.room c.args.store.now.end a c.args.ended.now)) c.args.store.now.disk.history c.commit.new.store.disk.history)
    (sym (c.in-Some-Line.is ∙ ap (λ (a : Answered). Some a) c.in-Some-Line.field-0-is)) (c.commit.ensures.moments model ops is)

pub returns-in-Err-OutOfMemory-clause-fault : goal.returns-in-Err-OutOfMemory-clause-fault
returns-in-Err-OutOfMemory-clause-fault g c =
    subst (λ (a : Option Answered). NotKept c.args.store.now c.lose_at_end.new.store (op_by c.args.store.now.disk.room c.args.store.now.end a c.args.ended.now) hosts.OutOfMemory)
    (sym c.in-None.is)
    (unkept_for_memory c.args.store.now c.lose_at_end.new.store _ (subst (NotLost c.args.store.now c.lose_at_end.new.store _) c.in-Err-OutOfMemory.field-0-is c.in-Err-OutOfMemory.ensures.fault))

pub returns-in-None-clause-fault : goal.returns-in-None-clause-fault
returns-in-None-clause-fault g c =
    subst (λ (a : Option Answered). NotKept c.args.store.now c.lose_at_end.new.store (op_by c.args.store.now.disk.room c.args.store.now.end a c.args.ended.now) hosts.Disk)
    (sym c.in-None.is)
    (unkept_for_disk c.args.store.now c.lose_at_end.new.store _ (subst (NotLost c.args.store.now c.lose_at_end.new.store _) c.in-Err-Disk.field-0-is c.in-Err-Disk.ensures.fault))

pub returns-in-Err-OutOfMemory-lose_at_end-clause-fault : goal.returns-in-Err-OutOfMemory-lose_at_end-clause-fault
returns-in-Err-OutOfMemory-lose_at_end-clause-fault g c =
    subst (λ (a : Option Answered). NotKept c.args.store.now c.lose_at_end-in-Some-Banner.new.store (op_by c.args.store.now.disk.room c.args.store.now.end a c.args.ended.now) hosts.OutOfMemory)
    (sym (c.in-Some-Banner.is ∙ ap (λ (a : Answered). Some a) c.in-Some-Banner.field-0-is))
    (unkept_for_memory c.args.store.now c.lose_at_end-in-Some-Banner.new.store _ (subst (NotLost c.args.store.now c.lose_at_end-in-Some-Banner.new.store _) c.in-Err-OutOfMemory-lose_at_end.field-0-is c.in-Err-OutOfMemory-lose_at_end.ensures.fault))

pub returns-in-Some-Banner-clause-fault : goal.returns-in-Some-Banner-clause-fault
returns-in-Some-Banner-clause-fault g c =
    subst (λ (a : Option Answered). NotKept c.args.store.now c.lose_at_end-in-Some-Banner.new.store (op_by c.args.store.now.disk.room c.args.store.now.end a c.args.ended.now) hosts.Disk)
    (sym (c.in-Some-Banner.is ∙ ap (λ (a : Answered). Some a) c.in-Some-Banner.field-0-is))
    (unkept_for_disk c.args.store.now c.lose_at_end-in-Some-Banner.new.store _ (subst (NotLost c.args.store.now c.lose_at_end-in-Some-Banner.new.store _) c.in-Err-Disk-lose_at_end.field-0-is c.in-Err-Disk-lose_at_end.ensures.fault))

pub returns-in-Ok-Some-JournalFull-clause-fault : goal.returns-in-Ok-Some-JournalFull-clause-fault
returns-in-Ok-Some-JournalFull-clause-fault g c =
    let n : NotCommitted c.args.store.now (op.Answer c.in-Some-Line.id c.in-Some-Line.prompt c.in-Some-Line.output) c.commit.new.store refusal.JournalFull = search rules in
    subst (λ (a : Option Answered). NotKept c.args.store.now c.commit.new.store (op_by c.args.store.now.disk.room c.args.store.now.end a c.args.ended.now) hosts.JournalFull)
    (sym (c.in-Some-Line.is ∙ ap (λ (a : Answered). Some a) c.in-Some-Line.field-0-is))
    (unkept_in_room (op.Answer c.in-Some-Line.id c.in-Some-Line.prompt c.in-Some-Line.output) n.same (refused_room c.args.store.now c.commit.new.store (op.Answer c.in-Some-Line.id c.in-Some-Line.prompt c.in-Some-Line.output) n))

pub returns-in-Ok-Some-clause-fault : goal.returns-in-Ok-Some-clause-fault
returns-in-Ok-Some-clause-fault g c =
    let n : NotCommitted c.args.store.now (op.Answer c.in-Some-Line.id c.in-Some-Line.prompt c.in-Some-Line.output) c.commit.new.store c.in-Ok-Some.field-0-0 = search rules in
    subst (λ (a : Option Answered). NotKept c.args.store.now c.commit.new.store (op_by c.args.store.now.disk.room c.args.store.now.end a c.args.ended.now) hosts.OutOfMemory)
    (sym (c.in-Some-Line.is ∙ ap (λ (a : Answered). Some a) c.in-Some-Line.field-0-is))
    (unkept_in_memory (op.Answer c.in-Some-Line.id c.in-Some-Line.prompt c.in-Some-Line.output) n.same)

pub returns-in-Some-Line-clause-fault : goal.returns-in-Some-Line-clause-fault
returns-in-Some-Line-clause-fault g c =
    subst (λ (a : Option Answered). NotKept c.args.store.now c.commit.new.store (op_by c.args.store.now.disk.room c.args.store.now.end a c.args.ended.now) hosts.Disk)
    (sym (c.in-Some-Line.is ∙ ap (λ (a : Answered). Some a) c.in-Some-Line.field-0-is))
    (unkept_on_disk (op.Answer c.in-Some-Line.id c.in-Some-Line.prompt c.in-Some-Line.output) c.in-Err.ensures.err.0 c.in-Err.ensures.err.1)

pub returns-in-Ok-clause-same : goal.returns-in-Ok-clause-same
returns-in-Ok-clause-same g c = c.lose_at_end.ensures.same

pub returns-in-Ok-clause-gathers : goal.returns-in-Ok-clause-gathers
returns-in-Ok-clause-gathers g c = c.lose_at_end.ensures.gathers

pub returns-in-Ok-clause-fault : goal.returns-in-Ok-clause-fault
returns-in-Ok-clause-fault g c = tt

pub returns-in-Err-OutOfMemory-clause-same : goal.returns-in-Err-OutOfMemory-clause-same
returns-in-Err-OutOfMemory-clause-same g c = c.lose_at_end.ensures.same

pub returns-in-Err-OutOfMemory-clause-gathers : goal.returns-in-Err-OutOfMemory-clause-gathers
returns-in-Err-OutOfMemory-clause-gathers g c = c.lose_at_end.ensures.gathers

pub returns-in-Err-OutOfMemory-clause-ok : goal.returns-in-Err-OutOfMemory-clause-ok
returns-in-Err-OutOfMemory-clause-ok g c = λ ops is. tt

pub returns-in-None-clause-same : goal.returns-in-None-clause-same
returns-in-None-clause-same g c = c.lose_at_end.ensures.same

pub returns-in-None-clause-gathers : goal.returns-in-None-clause-gathers
returns-in-None-clause-gathers g c = c.lose_at_end.ensures.gathers

pub returns-in-None-clause-ok : goal.returns-in-None-clause-ok
returns-in-None-clause-ok g c = λ ops is. tt

pub returns-in-Ok-lose_at_end-clause-same : goal.returns-in-Ok-lose_at_end-clause-same
returns-in-Ok-lose_at_end-clause-same g c = c.lose_at_end-in-Some-Banner.ensures.same

pub returns-in-Ok-lose_at_end-clause-gathers : goal.returns-in-Ok-lose_at_end-clause-gathers
returns-in-Ok-lose_at_end-clause-gathers g c = c.lose_at_end-in-Some-Banner.ensures.gathers

pub returns-in-Ok-lose_at_end-clause-fault : goal.returns-in-Ok-lose_at_end-clause-fault
returns-in-Ok-lose_at_end-clause-fault g c = tt

pub returns-in-Err-OutOfMemory-lose_at_end-clause-same : goal.returns-in-Err-OutOfMemory-lose_at_end-clause-same
returns-in-Err-OutOfMemory-lose_at_end-clause-same g c = c.lose_at_end-in-Some-Banner.ensures.same

pub returns-in-Err-OutOfMemory-lose_at_end-clause-gathers : goal.returns-in-Err-OutOfMemory-lose_at_end-clause-gathers
returns-in-Err-OutOfMemory-lose_at_end-clause-gathers g c = c.lose_at_end-in-Some-Banner.ensures.gathers

pub returns-in-Err-OutOfMemory-lose_at_end-clause-ok : goal.returns-in-Err-OutOfMemory-lose_at_end-clause-ok
returns-in-Err-OutOfMemory-lose_at_end-clause-ok g c = λ ops is. tt

pub returns-in-Some-Banner-clause-same : goal.returns-in-Some-Banner-clause-same
returns-in-Some-Banner-clause-same g c = c.lose_at_end-in-Some-Banner.ensures.same

pub returns-in-Some-Banner-clause-gathers : goal.returns-in-Some-Banner-clause-gathers
returns-in-Some-Banner-clause-gathers g c = c.lose_at_end-in-Some-Banner.ensures.gathers

pub returns-in-Some-Banner-clause-ok : goal.returns-in-Some-Banner-clause-ok
returns-in-Some-Banner-clause-ok g c = λ ops is. tt

pub returns-in-Ok-None-clause-same : goal.returns-in-Ok-None-clause-same
returns-in-Ok-None-clause-same g c = c.commit.ensures.same

pub returns-in-Ok-None-clause-gathers : goal.returns-in-Ok-None-clause-gathers
returns-in-Ok-None-clause-gathers g c = c.commit.ensures.gathers

pub returns-in-Ok-None-clause-fault : goal.returns-in-Ok-None-clause-fault
returns-in-Ok-None-clause-fault g c = tt

pub returns-in-Ok-Some-JournalFull-clause-same : goal.returns-in-Ok-Some-JournalFull-clause-same
returns-in-Ok-Some-JournalFull-clause-same g c = c.commit.ensures.same

pub returns-in-Ok-Some-JournalFull-clause-gathers : goal.returns-in-Ok-Some-JournalFull-clause-gathers
returns-in-Ok-Some-JournalFull-clause-gathers g c = c.commit.ensures.gathers

pub returns-in-Ok-Some-JournalFull-clause-ok : goal.returns-in-Ok-Some-JournalFull-clause-ok
returns-in-Ok-Some-JournalFull-clause-ok g c = λ ops is. tt

pub returns-in-Some-Line-clause-same : goal.returns-in-Some-Line-clause-same
returns-in-Some-Line-clause-same g c = c.commit.ensures.same

pub returns-in-Some-Line-clause-gathers : goal.returns-in-Some-Line-clause-gathers
returns-in-Some-Line-clause-gathers g c = c.commit.ensures.gathers

pub returns-in-Some-Line-clause-ok : goal.returns-in-Some-Line-clause-ok
returns-in-Some-Line-clause-ok g c = λ ops is. tt

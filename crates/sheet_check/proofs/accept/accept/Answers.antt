use Rattle.std.proofs.Common.{sym, subst}
use Rattle.std.specs.Prelude.{Err}
use Rattle.sheet_check.specs.Kept.{PutsOne, answer_op}
use Rattle.sheet_check.specs.declared.accept.PutFault.{PutFault}
use Rattle.sheet_check.proofs.After.{answer_allowed, not_put, put}
use Rattle.sheet_check.proofs.accept.accept.Goals as goal

pub returns-in-Ok-clause-puts : goal.returns-in-Ok-clause-puts
returns-in-Ok-clause-puts g c = λ ops more disk has.
    put ops more (answer_op c.args.id c.args.answer) disk c.args.store.now c.commit.new.self has
    (answer_allowed c.args.store.now.sheet.contents c.args.id c.args.answer.prompt c.args.answer.output c.requires.there c.requires.short) c.in-Ok.ensures.commits

pub returns-in-Err-clause-puts : goal.returns-in-Err-clause-puts
returns-in-Err-clause-puts g c = λ ops more disk has.
    subst (λ (why : PutFault). PutsOne ops more disk (answer_op c.args.id c.args.answer) c.commit.new.self (Err why)) (sym c.fault_of-why.ensures)
    (not_put ops more (answer_op c.args.id c.args.answer) disk c.args.store.now c.commit.new.self has
    (answer_allowed c.args.store.now.sheet.contents c.args.id c.args.answer.prompt c.args.answer.output c.requires.there c.requires.short) c.in-Err.ensures.store c.in-Err.fault c.in-Err.ensures.commits)

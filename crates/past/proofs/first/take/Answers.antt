use Rattle.std.proofs.Common.{◌≤◌, length, subst, List, ℕ}
use Rattle.std.proofs.lemmas.Result.{on_ok_weaker}
use Rattle.journal.specs.Limits.{longest_payload}
use Rattle.recovery.proofs.Allowed.{makes_more}
use Rattle.past.proofs.first.take.Goals as goal

pub returns-in-Ok-clause-taken : goal.returns-in-Ok-clause-taken
returns-in-Ok-clause-taken c = λ ops makes.
    let own = c.in-Ok.ensures.own in
    on_ok_weaker c.do_op.result (λ is. record {
      next = c.in-Ok.op;
      is = own.is;
      makes = makes_more ops c.in-Ok.op c.args.sheet.now.contents c.do_op.new.sheet.contents makes own.typed (subst (λ (b : List ℕ). length b ≤ longest_payload) own.is c.requires.1) c.in-Ok.ensures.allowed is;
    }) (c.do_op.ensures.ok ops makes.is)

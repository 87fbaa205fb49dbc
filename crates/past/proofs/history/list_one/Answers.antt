use Rattle.std.proofs.Common.{◌≤◌, ◌++◌, ◌∷◌, [], length, refl, subst, List, ℕ}
use Rattle.std.specs.Io.KnownBytes.{Appends}
use Rattle.journal.specs.Limits.{longest_payload}
use Rattle.past.specs.History.{change_line}
use Rattle.past.proofs.Lists.{lists_next, refuses_in}
use Rattle.recovery.proofs.Allowed.{makes_more}
use Rattle.worksheet.specs.Ops.{sheet_of}
use Rattle.past.proofs.history.list_one.Goals as goal

pub returns-in-Err-clause-refused : goal.returns-in-Err-clause-refused
returns-in-Err-clause-refused g c = λ ops makes. refuses_in ops c.args.payload.now _ _ c.in-Err.cause (c.in-Err.ensures.refused ops makes) refl

pub returns-in-Ok-do_op-clause-taken : goal.returns-in-Ok-do_op-clause-taken
returns-in-Ok-do_op-clause-taken g c = λ ops makes.
    let own = c.in-Ok.ensures.own in
    let line = subst (λ (n : ℕ). Appends (g.W.Write.contents c.args.writer.now) (g.W.Write.contents c.write_line.new.out) (change_line c.args.number n c.in-Ok.op)) c.next_id.ensures c.in_default.ensures in (
      record {
        next = c.in-Ok.op;
        is = own.is;
        makes = makes_more ops c.in-Ok.op c.args.sheet.now.contents c.do_op.new.sheet.contents makes own.typed (subst (λ (b : List ℕ). length b ≤ longest_payload) own.is c.requires.1) c.in-Ok.ensures.allowed (c.in-Ok-do_op.ensures.ok ops makes.is);
      },
      line,
    )

pub returns-in-Err-do_op-clause-refused : goal.returns-in-Err-do_op-clause-refused
returns-in-Err-do_op-clause-refused g c = λ ops makes.
    let own = c.in-Ok.ensures.own in
    let line = subst (λ (n : ℕ). Appends (g.W.Write.contents c.args.writer.now) (g.W.Write.contents c.write_line.new.out) (change_line c.args.number n c.in-Ok.op)) c.next_id.ensures c.in_default.ensures in
    lists_next ops c.args.payload.now _ _ c.in-Err-do_op.cause c.in-Err-do_op.ensures.cause (
      sheet_of (ops ++ c.in-Ok.op ∷ []),
      record {
        next = c.in-Ok.op;
        is = own.is;
        makes = makes_more ops c.in-Ok.op c.args.sheet.now.contents (sheet_of (ops ++ c.in-Ok.op ∷ [])) makes own.typed (subst (λ (b : List ℕ). length b ≤ longest_payload) own.is c.requires.1) c.in-Ok.ensures.allowed refl;
      },
      line,
    )

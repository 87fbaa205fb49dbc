use Rattle.std.proofs.Common.{[], Some, ap, ◌∙◌, subst}
use Rattle.std.proofs.KnownBytes.{Appends-nil}
use Rattle.std.proofs.lemmas.Result.{on_ok_weaker}
use Rattle.std.specs.Io.KnownBytes.{Appends}
use Rattle.std.specs.Prelude.{Err}
use Rattle.worksheet.specs.Ops.{sheet_of}
use Rattle.worksheet.specs.declared.refusal.Refusal.TheVariants as refusal
use Rattle.host_events.specs.declared.reply.Reply.TheVariants as reply
use Rattle.sheet_text.specs.Script.{line_of}
use Rattle.sheet_text.specs.Texts.{reply_text, sheet_text}
use Rattle.offline_programs.specs.Memory.{bad_line, skipped, unknown, printed, idle}
use Rattle.offline_programs.proofs.Scripting.{as_said, unread_line}
use Rattle.offline_programs.proofs.memory.do_line.Goals as goal

pub returns-in-Ok-Skip-clause-ok : goal.returns-in-Ok-Skip-clause-ok
returns-in-Ok-Skip-clause-ok g c = λ ops h.
    ([], ops, as_said c.args.number ops [] ops _ _ (c.in-Ok-Skip.ensures.ok ∙ ap Some c.in-Ok-Skip.field-0-is) skipped, h, Appends-nil (g.W.Write.contents c.args.writer.now))

pub returns-in-Ok-Print-clause-ok : goal.returns-in-Ok-Print-clause-ok
returns-in-Ok-Print-clause-ok g c = λ ops h.
    on_ok_weaker c.write_sheet.result
    (λ p. (
      sheet_text (sheet_of ops),
      ops,
      as_said c.args.number ops (sheet_text (sheet_of ops)) ops _ _ (c.in-Ok-Print.ensures.ok ∙ ap Some c.in-Ok-Print.field-0-is) printed,
      h,
      subst (λ s. Appends (g.W.Write.contents c.args.writer.now) (g.W.Write.contents c.write_sheet.new.writer) (sheet_text s)) h p,
    ))
    c.write_sheet.ensures.ok

pub returns-in-Err-OutOfMemory-clause-ok : goal.returns-in-Err-OutOfMemory-clause-ok
returns-in-Err-OutOfMemory-clause-ok g c = λ ops h.
    on_ok_weaker c.write_reply.result
    (λ p. (
      reply_text (reply.Refused refusal.OutOfMemory),
      ops,
      unread_line c.args.number ops (line_of c.args.line.now) (c.in-Err-OutOfMemory.ensures.memory (ap (λ e. Err e) c.in-Err-OutOfMemory.field-0-is)),
      h,
      p,
    ))
    c.write_reply.ensures.ok

pub returns-in-Ok-Wait-clause-ok : goal.returns-in-Ok-Wait-clause-ok
returns-in-Ok-Wait-clause-ok g c = λ ops h.
    on_ok_weaker c.write_bad_line.result
    (λ p. (bad_line c.args.number, ops, as_said c.args.number ops (bad_line c.args.number) ops _ _ (c.in-Ok-Wait.ensures.ok ∙ ap Some c.in-Ok-Wait.field-0-is) idle, h, p))
    c.write_bad_line.ensures.ok

pub returns-in-Err-BadLine-clause-ok : goal.returns-in-Err-BadLine-clause-ok
returns-in-Err-BadLine-clause-ok g c = λ ops h.
    on_ok_weaker c.write_bad_line-in-Err-BadLine.result
    (λ p. (bad_line c.args.number, ops, as_said c.args.number ops (bad_line c.args.number) ops _ _ (c.in-Err-BadLine.ensures.bad (ap (λ e. Err e) c.in-Err-BadLine.field-0-is)) unknown, h, p))
    c.write_bad_line-in-Err-BadLine.ensures.ok

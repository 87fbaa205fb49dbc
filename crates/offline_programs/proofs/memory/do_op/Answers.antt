use Rattle.std.proofs.Common.{◌++◌, ◌∷◌, [], ◌≡◌, refl, subst}
use Rattle.std.specs.Prelude.{IsOk, OnOk, OnErr}
use Rattle.std.proofs.lemmas.Bool.{false≢true}
use Rattle.worksheet.specs.declared.refusal.Refusal.TheVariants as refusal
use Rattle.worksheet.specs.Ops.{sheet_of}
use Rattle.host_events.specs.declared.reply.Reply.TheVariants as reply
use Rattle.offline_programs.proofs.Scripting.{op_refused, op_done, op_unkept, takes_when_refused}
use Rattle.offline_programs.proofs.memory.do_op.Goals as goal

pub returns-in-Err : goal.returns-in-Err
returns-in-Err c = λ ops h. op_refused ops c.args.op c.args.sheet.now.contents c.in-Err.refusal h c.in-Err.ensures

pub returns-in-Ok : goal.returns-in-Ok
returns-in-Ok c = λ ops h.
    op_done ops c.args.op c.args.sheet.now.contents c.apply.new.self.contents c.reply_to-reply.result h c.in_default.ensures c.reply_to-reply.ensures
    (subst (λ r. OnOk r (c.apply.new.self.contents ≡ sheet_of (ops ++ c.args.op ∷ []))) c.in-Ok.is (c.apply.ensures.ok ops h))

pub returns-in-Err-apply : goal.returns-in-Err-apply
returns-in-Err-apply c = λ ops h.
    op_unkept ops c.args.op c.args.sheet.now.contents c.apply.new.self.contents (reply.Refused refusal.OutOfMemory)
    (takes_when_refused c.args.sheet.now c.args.op (λ room. false≢true (subst (λ r. IsOk r) c.in-Err-apply.is (c.apply.ensures.ready room)))) h c.in_default.ensures refl
    (subst (λ r. OnErr r (c.apply.new.self.contents ≡ c.args.sheet.now.contents)) c.in-Err-apply.is c.apply.ensures.err)

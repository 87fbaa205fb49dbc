use Rattle.std.proofs.Common.{◌≡◌, true, ap, subst, ◌∙◌}
use Rattle.std.specs.Prelude.{OnOk}
use Rattle.std.specs.Io.KnownBytes.{Appends}
use Rattle.worksheet.specs.Contents.{Contents}
use Rattle.sheet_export.specs.Formats.{ReadsBack, has_text, text_in}
use Rattle.std.proofs.lemmas.Result.{IfErr-weaker}
use Rattle.sheet_export.proofs.Faults.{reported_so}
use Rattle.sheet_export.proofs.formats.export.Goals as goal

pub returns-in-Ok-clause-written : goal.returns-in-Ok-clause-written
returns-in-Ok-clause-written g c = λ model sheet image.
    let same = c.in-Ok.ensures.exact model sheet image in
    subst
    (λ (s : Contents). OnOk c.tell_in-answer.result ((has_text c.args.format s ≡ true)
    × Appends (g.W.Write.contents c.args.writer.now) (g.W.Write.contents c.tell_in-answer.new.out) (text_in c.args.format c.args.title.now s)))
    (ap (λ v. v.contents) c.sheet.ensures.sheet ∙ same) c.tell_in-answer.ensures.ok

pub returns-in-Ok-clause-reads : goal.returns-in-Ok-clause-reads
returns-in-Ok-clause-reads g c = λ model sheet image.
    let same = c.in-Ok.ensures.exact model sheet image in
    subst (λ (s : Contents). OnOk c.tell_in-answer.result (ReadsBack c.args.format s)) (ap (λ v. v.contents) c.sheet.ensures.sheet ∙ same) c.tell_in-answer.ensures.reads

pub returns-in-Ok-clause-fault : goal.returns-in-Ok-clause-fault
returns-in-Ok-clause-fault g c = IfErr-weaker c.tell_in-answer.result _ _ (λ why. reported_so c.args.format _ (g.D.Disk.view c.args.disk) _ why) c.tell_in-answer.ensures.err

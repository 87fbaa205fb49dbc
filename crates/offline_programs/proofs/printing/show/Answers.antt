use Rattle.std.proofs.Common.{ap, ◌∙◌, refl, subst}
use Rattle.std.specs.Prelude.{OnOk}
use Rattle.std.specs.Io.KnownBytes.{Appends}
use Rattle.std.proofs.lemmas.Result.{IfErr-weaker}
use Rattle.worksheet.specs.Contents.{Contents}
use Rattle.sheet_text.specs.Texts.{sheet_text}
use Rattle.offline_programs.specs.Faults.{unopened}
use Rattle.offline_programs.proofs.Shows.{output_reported}
use Rattle.offline_programs.proofs.printing.show.Goals as goal

pub returns-in-Ok-clause-shown : goal.returns-in-Ok-clause-shown
returns-in-Ok-clause-shown g c = λ model sheet image.
    let same = c.in-Ok.ensures.exact model sheet image in
    subst (λ (s : Contents). OnOk c.tell_sheet-answer.result (Appends (g.W.Write.contents c.args.writer.now) (g.W.Write.contents c.tell_sheet-answer.new.writer) (sheet_text s)))
    (ap (λ v. v.contents) c.sheet.ensures.sheet ∙ same) c.tell_sheet-answer.ensures.ok

pub returns-in-Ok-clause-fault : goal.returns-in-Ok-clause-fault
returns-in-Ok-clause-fault g c = IfErr-weaker c.tell_sheet-answer.result _ _ (λ why is. output_reported (g.D.Disk.view c.args.disk) _ why is) c.tell_sheet-answer.ensures.err

pub returns-in-Err-clause-fault : goal.returns-in-Err-clause-fault
returns-in-Err-clause-fault g c = unopened c.in-Err.field-0.cause refl c.in-Err.ensures.fault

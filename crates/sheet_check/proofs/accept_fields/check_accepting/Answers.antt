use Rattle.std.proofs.Common.{◌≡◌, ◌∙◌, [], ap, refl, sym, subst}
use Rattle.disk_model.specs.Disk.{DiskView}
use Rattle.journal.specs.declared.opening.OpenCause.TheVariants as opens
use Rattle.recovery.specs.Sheets.{StoreView}
use Rattle.sheet_check.specs.Evaluated.{way}
use Rattle.sheet_check.specs.Accept.{SheetAccepts, filing, opened, to_accept, unopened}
use Rattle.sheet_check.specs.Progress as progress
use Rattle.sheet_check.specs.Check.{passage}
use Rattle.sheet_check.specs.Named.{missing_named}
use Rattle.sheet_check.proofs.Kept.{opened_on, opened_stores}
use Rattle.sheet_check.proofs.Lacking.{accept_unopened, done_so}
use Rattle.sheet_check.proofs.accept_fields.check_accepting.Goals as goal

pub accept_named-answer-requires-clause-goes_on : goal.accept_named-answer-requires-clause-goes_on
accept_named-answer-requires-clause-goes_on g c =
    let e = c.in-Ok.ensures in
    record {
      ops = e.made.0;
      cases = [];
      disk = c.in-Ok.store.disk;
      is = e.made.1.is;
      stores = opened_stores (g.D.Disk.view c.args.disk) c.in-Ok.store e.made.0 e.made.1 e.open e.same e.images;
    }

pub returns-in-Ok-clause-accepted : goal.returns-in-Ok-clause-accepted
returns-in-Ok-clause-accepted g c =
    let e = c.in-Ok.ensures in
    let nothing : Type 0 = (c.accept_named-answer.new.writer ≡ c.args.writer.now) × (c.accept_named-answer.result.sources ≡ c.args.sources) in
    let back = c.into_disk.ensures.written (c.accept_named-answer.ensures.written e.written.1) in
    opened c.in-Ok.store.sheet.contents e.made.0 c.in-Ok.store.disk (opened_on (g.D.Disk.view c.args.disk) c.in-Ok.store e.made.0 e.made.1 e.open e.same e.steady e.sheet e.looks e.images)
    (done_so (missing_named c.args.manner.now.request.now.chosen c.in-Ok.store.sheet.contents.fields)
    (nothing × (c.accept_named-answer.new.store ≡ c.in-Ok.store)) (nothing × (g.D.Disk.view c.into_disk.result ≡ c.in-Ok.store.disk))
    (SheetAccepts (to_accept (way g.C.Children.after g.C.Sources.clock g.C.Sources.wakes c.args.manner.now.request.now.limit) c.args.manner.now.request.now.chosen) c.in-Ok.store.sheet.contents (passage c.args.sources c.accept_named-answer.result.sources (g.W.Write.contents c.args.writer.now) (g.W.Write.contents c.accept_named-answer.new.writer)) nothing (filing g.W.Stamped.held e.made.0 c.in-Ok.store.disk c.accept_named-answer.new.store.disk))
    (SheetAccepts (to_accept (way g.C.Children.after g.C.Sources.clock g.C.Sources.wakes c.args.manner.now.request.now.limit) c.args.manner.now.request.now.chosen) c.in-Ok.store.sheet.contents (passage c.args.sources c.accept_named-answer.result.sources (g.W.Write.contents c.args.writer.now) (g.W.Write.contents c.accept_named-answer.new.writer)) nothing (filing g.W.Stamped.held e.made.0 c.in-Ok.store.disk (g.D.Disk.view c.into_disk.result)))
    c.accept_named-answer.result.answer (λ p. (p.0, back ∙ ap (λ (s : StoreView). s.disk) p.1))
    (λ counted came. subst (λ (disk : DiskView). SheetAccepts
    (to_accept (way g.C.Children.after g.C.Sources.clock g.C.Sources.wakes c.args.manner.now.request.now.limit) c.args.manner.now.request.now.chosen) c.in-Ok.store.sheet.contents (passage c.args.sources c.accept_named-answer.result.sources (g.W.Write.contents c.args.writer.now) (g.W.Write.contents c.accept_named-answer.new.writer)) nothing (filing g.W.Stamped.held e.made.0 c.in-Ok.store.disk disk) counted) (sym back) came)
    (c.accept_named-answer.ensures.accepted e.made.0 c.in-Ok.store.disk (opened_stores (g.D.Disk.view c.args.disk) c.in-Ok.store e.made.0 e.made.1 e.open e.same e.images)))

pub returns-in-Ok-clause-failed : goal.returns-in-Ok-clause-failed
returns-in-Ok-clause-failed g c = λ is.
    let e = c.in-Ok.ensures in
    let nothing : Type 0 = (c.accept_named-answer.new.writer ≡ c.args.writer.now) × (c.accept_named-answer.result.sources ≡ c.args.sources) in
    absurd (accept_unopened (way g.C.Children.after g.C.Sources.clock g.C.Sources.wakes c.args.manner.now.request.now.limit) c.args.manner.now.request.now.chosen c.in-Ok.store.sheet.contents c.args.sources c.accept_named-answer.result.sources (g.W.Write.contents c.args.writer.now) (g.W.Write.contents c.accept_named-answer.new.writer)
    (filing g.W.Stamped.held e.made.0 c.in-Ok.store.disk c.accept_named-answer.new.store.disk)
    (missing_named c.args.manner.now.request.now.chosen c.in-Ok.store.sheet.contents.fields) nothing
    (nothing × (c.accept_named-answer.new.store ≡ c.in-Ok.store)) c.accept_named-answer.result.answer opens.Disk
    (c.accept_named-answer.ensures.accepted e.made.0 c.in-Ok.store.disk (opened_stores (g.D.Disk.view c.args.disk) c.in-Ok.store e.made.0 e.made.1 e.open e.same e.images)) is)

pub returns-in-Ok-clause-memory : goal.returns-in-Ok-clause-memory
returns-in-Ok-clause-memory g c = λ is.
    let e = c.in-Ok.ensures in
    let nothing : Type 0 = (c.accept_named-answer.new.writer ≡ c.args.writer.now) × (c.accept_named-answer.result.sources ≡ c.args.sources) in
    absurd (accept_unopened (way g.C.Children.after g.C.Sources.clock g.C.Sources.wakes c.args.manner.now.request.now.limit) c.args.manner.now.request.now.chosen c.in-Ok.store.sheet.contents c.args.sources c.accept_named-answer.result.sources (g.W.Write.contents c.args.writer.now) (g.W.Write.contents c.accept_named-answer.new.writer)
    (filing g.W.Stamped.held e.made.0 c.in-Ok.store.disk c.accept_named-answer.new.store.disk)
    (missing_named c.args.manner.now.request.now.chosen c.in-Ok.store.sheet.contents.fields) nothing
    (nothing × (c.accept_named-answer.new.store ≡ c.in-Ok.store)) c.accept_named-answer.result.answer opens.OutOfMemory
    (c.accept_named-answer.ensures.accepted e.made.0 c.in-Ok.store.disk (opened_stores (g.D.Disk.view c.args.disk) c.in-Ok.store e.made.0 e.made.1 e.open e.same e.images)) is)

pub returns-in-Ok-clause-shown : goal.returns-in-Ok-clause-shown
returns-in-Ok-clause-shown g c = progress.opened c.in-Ok.store.sheet.contents c.in-Ok.ensures.sheet c.accept_named-answer.ensures.shown

pub returns-in-Err-clause-accepted : goal.returns-in-Err-clause-accepted
returns-in-Err-clause-accepted g c =
    let e = c.in-Err.ensures in
    unopened c.in-Err.field-0.cause refl (refl, refl) e.fault (record { same = e.same; looks = e.looks })

pub returns-in-Err-clause-shown : goal.returns-in-Err-clause-shown
returns-in-Err-clause-shown g c = progress.unopened c.in-Err.field-0.cause refl refl

use Rattle.std.proofs.Common.{◌≡◌, refl, sym, subst, IsTrue}
use Rattle.std.specs.Io.KnownBytes.{Appends}
use Rattle.disk_model.specs.Disk.{bytes_on}
use Rattle.disk_model.specs.inside.Moments.{looks_on}
use Rattle.past.specs.History.{TellsList}
use Rattle.past.specs.declared.history.Listed.{Listed}
use Rattle.past.proofs.Lists.{list_none}
use Rattle.past.proofs.history.list_changes.Goals as goal

pub returns-in-Ok-clause-looks : goal.returns-in-Ok-clause-looks
returns-in-Ok-clause-looks g c = λ model.
    let model1 = subst IsTrue (sym c.in-Ok.ensures.same.keeps_model) model in
    looks_on _ _ _ (c.in-Ok.ensures.looks model) (c.list_front.ensures.looks model1)

pub returns-in-Err-clause-listed : goal.returns-in-Err-clause-listed
returns-in-Err-clause-listed g c = λ model.
    let written = Appends (g.W.Write.contents c.args.writer.now) (g.W.Write.contents c.args.writer.now) in
    let nothing = c.args.writer.now ≡ c.args.writer.now in
    subst (λ (l : Listed g.row.D.Denot). TellsList (bytes_on (g.D.Disk.view c.args.disk)) written nothing l.answer) (sym c.not_read.ensures)
    (list_none (bytes_on (g.D.Disk.view c.args.disk)) written nothing c.in-Err.fault.cause (c.in-Err.ensures.fault model) refl)

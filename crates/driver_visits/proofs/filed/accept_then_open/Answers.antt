use Rattle.std.proofs.Common.{◌≡◌, ap, subst, sym, ℕ, List, [], Option}
use Rattle.std.specs.Io.KnownBytes.{Appends}
use Rattle.std.proofs.KnownBytes.{Appends-nil}
use Rattle.session_engine.specs.Host.{disk_of_opening}
use Rattle.sheet_check.specs.Accept.{acceptance, accepting_by}
use Rattle.sheet_check.specs.Check.{passage}
use Rattle.sheet_check.specs.Evaluated.{way}
use Rattle.driver_visits.proofs.Accepting.{acceptance_filed}
use Rattle.driver_visits.proofs.FiledUses.{accepts_then_opens}
use Rattle.driver_visits.proofs.filed.accept_then_open.Goals as goal

pub returns : goal.returns
returns g c = λ model.
    let came = c.check_accepting-disk.result in
    let before = g.W.Write.contents c.args.writer.now in
    let written = g.W.Write.contents c.check_accepting-disk.new.writer in
    let asked = c.args.manner.now.request.now in
    let nothing = (c.check_accepting-disk.new.writer ≡ c.args.writer.now) × (came.sources ≡ c.args.sources) in
    let x = acceptance g.W.Stamped.held (g.D.Disk.view c.args.disk) (g.D.Disk.view came.disk) in
    let q = passage c.args.sources came.sources before written in
    accepts_then_opens (accepting_by g.C.Children.after g.C.Sources.clock g.C.Sources.wakes asked) q x nothing (disk_of_opening g.D.Disk.view c.opened_after.result) came.answer c.opened_after.result c.hosts_in_turn.ensures c.one_sheet.ensures model (g.met.D.Disk.content_stays came.disk)
    c.opened_after.ensures.acts c.opened_after.ensures.same c.opened_after.ensures.looks c.check_accepting-disk.ensures.accepted c.check_accepting-disk.ensures.failed c.check_accepting-disk.ensures.memory
    (acceptance_filed (way g.C.Children.after g.C.Sources.clock g.C.Sources.wakes asked.limit) asked.chosen x q nothing
    (λ none. subst (λ (x : Option (List ℕ)). Appends before x []) (sym (ap g.W.Write.contents none.0)) (Appends-nil before)) came.answer model c.check_accepting-disk.ensures.accepted)

use Rattle.std.proofs.Common.{arith}
use Rattle.disk_model.specs.Disk.{area_of, bytes_on}
use Rattle.journal.proofs.Walks.{header_shown}
use Rattle.journal.proofs.walk.selector_of.Goals as goal

pub returns-in-None-clause-fault : goal.returns-in-None-clause-fault
returns-in-None-clause-fault g c = λ model has.
    let area = area_of c.args.window.now.area (bytes_on (g.D.Disk.view c.args.disk.now)) in
    let shown = c.following.ensures.shows area (c.in_default.ensures.shows model) in
    c.in-None.ensures.none
    (header_shown c.following.result.now area shown (omega (arith, c.following.ensures.len, c.in_default.ensures.to, c.min.ensures, (c.requires.shows model).limit)) has)

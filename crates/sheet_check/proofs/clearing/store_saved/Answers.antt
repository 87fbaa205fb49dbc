use Rattle.disk_model.specs.Disk.{bytes_on}
use Rattle.sheet_check.proofs.clearing.store_saved.Goals as goal

pub returns-in-Ok : goal.returns-in-Ok
returns-in-Ok g c = c.in-Ok.ensures.exact c.requires.model c.args.sheet.now.contents (c.requires.saved (bytes_on (g.D.Disk.view c.args.disk)) (g.met.D.Disk.content_stays c.args.disk c.requires.model))

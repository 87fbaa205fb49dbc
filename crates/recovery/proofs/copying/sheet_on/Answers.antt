use Rattle.std.proofs.Common.{◌∙◌, ap}
use Rattle.disk_model.specs.Disk.{bytes_on}
use Rattle.worksheet.specs.Contents.{SheetView}
use Rattle.recovery.proofs.copying.sheet_on.Goals as goal

pub returns-in-Ok : goal.returns-in-Ok
returns-in-Ok g c =
    let image = c.requires.saved (bytes_on (g.D.Disk.view c.args.disk)) (g.met.D.Disk.content_stays c.args.disk c.requires.model) in
    ap (λ (s : SheetView). s.contents) c.into_sheet.ensures ∙ c.in-Ok.ensures.exact c.requires.model c.args.sheet.now.contents image

use Rattle.std.proofs.Common.{◌≡◌, ◌∙◌, IfSome, ap, subst}
use Rattle.worksheet.specs.Contents.{Contents, SheetView}
use Rattle.session_engine.specs.World.{World}
use Rattle.session_engine.specs.Host.{IsHost}
use Rattle.sheet_check.specs.Check.{IsCopy}
use Rattle.sheet_check.specs.Together.{cleared}
use Rattle.sheet_check.proofs.clearing.open_cleared.Goals as goal

pub returns-then-clear_fields : goal.returns-then-clear_fields
returns-then-clear_fields c =
    let same : c.sheet.result.now.contents ≡ cleared c.args.chosen.now c.args.sheet.now.contents.fields c.args.sheet.now.contents =
    ap (λ (s : SheetView). s.contents) c.sheet.ensures.sheet ∙ c.clear_fields.ensures c.if-clear_fields.true ∙ ap
    (λ (x : Contents). cleared c.args.chosen.now c.args.sheet.now.contents.fields x) c.in-Some.ensures in
    subst (λ (x : Contents). IfSome c.open_copy.result (λ host. (w : World) × IsHost host w × IsCopy x w host.store.disk)) same c.open_copy.ensures

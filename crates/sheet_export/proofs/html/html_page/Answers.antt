use Rattle.std.proofs.Common.{◌++◌}
use Rattle.std.proofs.KnownBytes.{Appends-trans}
use Rattle.sheet_export.specs.Html.{page_head, fields_html}
use Rattle.sheet_export.specs.Parts as part
use Rattle.sheet_export.proofs.html.html_page.Goals as goal

pub returns : goal.returns
returns g c =
    let title = c.args.title.now in
    let sheet = c.args.sheet.now.contents in
    Appends-trans _ _ _ (page_head title ++ fields_html sheet) (part.page_end) (Appends-trans _ _ _ (page_head title) (fields_html sheet) (c.in_ok-write_page_head.ensures) c.in_ok-write_fields.ensures) c.in_ok-write_bytes.ensures

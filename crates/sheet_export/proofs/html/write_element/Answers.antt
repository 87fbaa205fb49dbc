use Rattle.std.proofs.Common.{◌++◌, false}
use Rattle.std.proofs.KnownBytes.{Appends-trans}
use Rattle.sheet_export.specs.Html.{block_html}
use Rattle.sheet_export.specs.Parts as part
use Rattle.sheet_export.proofs.html.write_element.Goals as goal

pub returns : goal.returns
returns g c =
    let output = c.args.output.now in
    Appends-trans _ _ _ (part.output_start ++ block_html false output) (part.output_end) (Appends-trans _ _ _ (part.output_start) (block_html false output) (c.in_ok-write_bytes.ensures) c.in_ok-write_block.ensures) c.in_ok-write_bytes-2.ensures

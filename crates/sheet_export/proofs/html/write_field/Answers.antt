use Rattle.std.proofs.Common.{◌++◌}
use Rattle.std.proofs.KnownBytes.{Appends-trans}
use Rattle.sheet_export.specs.Html.{field_html, field_head, input_html, output_html}
use Rattle.sheet_export.specs.Parts as part
use Rattle.sheet_export.proofs.html.write_field.Goals as goal

pub returns : goal.returns
unfolding field_html
returns g c =
    let field = c.args.field.now in
    Appends-trans _ _ _ (field_head field ++ input_html field ++ output_html field.answer field.lost) (part.field_end) (Appends-trans _ _ _ (field_head field ++ input_html field) (output_html field.answer field.lost) (Appends-trans _ _ _ (field_head field) (input_html field) (c.in_ok-write_head.ensures) c.in_ok-write_input.ensures) c.in_ok-write_output.ensures) c.in_ok-write_bytes.ensures

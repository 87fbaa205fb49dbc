use Rattle.std.proofs.Common.{◌++◌, false}
use Rattle.std.proofs.KnownBytes.{Appends-trans}
use Rattle.sheet_export.specs.References.{html_text}
use Rattle.sheet_export.specs.Html.{lines_html}
use Rattle.sheet_text.specs.Texts.{prompt_shown}
use Rattle.sheet_export.specs.Parts as part
use Rattle.sheet_export.proofs.html.write_input.Goals as goal

pub returns : goal.returns
returns g c =
    let field = c.args.field.now in
    Appends-trans _ _ _ (part.input_start ++ html_text false (prompt_shown field.answer) ++ part.prompt_end ++ lines_html field.input) (part.input_end) (Appends-trans _ _ _ (part.input_start ++ html_text false (prompt_shown field.answer) ++ part.prompt_end) (lines_html field.input) (Appends-trans _ _ _ (part.input_start ++ html_text false (prompt_shown field.answer)) (part.prompt_end) (Appends-trans _ _ _ (part.input_start) (html_text false (prompt_shown field.answer)) (c.in_ok-write_bytes.ensures) c.in_ok-write_prompt.ensures) c.in_ok-write_bytes-2.ensures) c.in_ok-write_given.ensures) c.in_ok-write_bytes-3.ensures

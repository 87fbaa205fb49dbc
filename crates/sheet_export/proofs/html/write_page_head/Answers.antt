use Rattle.std.proofs.Common.{◌++◌, false}
use Rattle.std.proofs.KnownBytes.{Appends-trans}
use Rattle.sheet_export.specs.References.{html_text}
use Rattle.sheet_export.specs.Parts as part
use Rattle.sheet_export.proofs.html.write_page_head.Goals as goal

pub returns : goal.returns
returns g c =
    let title = c.args.title.now in
    Appends-trans _ _ _ (part.meta ++ html_text false title ++ part.title_end ++ part.style ++ part.style_end ++ html_text false title) (part.heading_end) (Appends-trans _ _ _ (part.meta ++ html_text false title ++ part.title_end ++ part.style ++ part.style_end) (html_text false title) (Appends-trans _ _ _ (part.meta ++ html_text false title ++ part.title_end ++ part.style) (part.style_end) (Appends-trans _ _ _ (part.meta ++ html_text false title ++ part.title_end) (part.style) (Appends-trans _ _ _ (part.meta ++ html_text false title) (part.title_end) (Appends-trans _ _ _ (part.meta) (html_text false title) (c.in_ok-write_bytes.ensures) c.in_ok-write_text.ensures) c.in_ok-write_bytes-2.ensures) c.in_ok-write_bytes-3.ensures) c.in_ok-write_bytes-4.ensures) c.in_ok-write_text-2.ensures) c.in_ok-write_bytes-5.ensures

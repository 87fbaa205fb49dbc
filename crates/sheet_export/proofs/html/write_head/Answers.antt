use Rattle.std.proofs.Common.{◌++◌, false}
use Rattle.std.proofs.KnownBytes.{Appends-trans}
use Rattle.std.specs.Fmt.{decimal}
use Rattle.sheet_export.specs.References.{html_text}
use Rattle.sheet_export.specs.Parts as part
use Rattle.sheet_export.proofs.html.write_head.Goals as goal

pub returns : goal.returns
returns g c =
    let field = c.args.field.now in
    Appends-trans _ _ _ (part.field_start ++ decimal field.id ++ part.anchor_end ++ decimal field.id ++ part.link_end ++ decimal field.id ++ part.number_end ++ html_text false field.session) (part.session_end) (Appends-trans _ _ _ (part.field_start ++ decimal field.id ++ part.anchor_end ++ decimal field.id ++ part.link_end ++ decimal field.id ++ part.number_end) (html_text false field.session) (Appends-trans _ _ _ (part.field_start ++ decimal field.id ++ part.anchor_end ++ decimal field.id ++ part.link_end ++ decimal field.id) (part.number_end) (Appends-trans _ _ _ (part.field_start ++ decimal field.id ++ part.anchor_end ++ decimal field.id ++ part.link_end) (decimal field.id) (Appends-trans _ _ _ (part.field_start ++ decimal field.id ++ part.anchor_end ++ decimal field.id) (part.link_end) (Appends-trans _ _ _ (part.field_start ++ decimal field.id ++ part.anchor_end) (decimal field.id) (Appends-trans _ _ _ (part.field_start ++ decimal field.id) (part.anchor_end) (Appends-trans _ _ _ (part.field_start) (decimal field.id) (c.in_ok-write_bytes.ensures) c.in_ok-write_number.ensures) c.in_ok-write_bytes-2.ensures) c.in_ok-write_number-2.ensures) c.in_ok-write_bytes-3.ensures) c.in_ok-write_number-3.ensures) c.in_ok-write_bytes-4.ensures) c.in_ok-write_session.ensures) c.in_ok-write_bytes-5.ensures

use Rattle.std.proofs.Common.{◌++◌}
use Rattle.std.proofs.KnownBytes.{Appends-trans}
use Rattle.std.specs.Prelude.{codes}
use Rattle.sheet_text.specs.Replies.{reason_name}
use Rattle.sheet_export.proofs.markdown.write_reason.Goals as goal

pub returns : goal.returns
returns g c =
    let name = reason_name c.args.reason in
    Appends-trans _ _ _ (codes "*no answer: " ++ name) (codes "*\n") (Appends-trans _ _ _ (codes "*no answer: ") name c.in_ok-write_bytes.ensures c.in_ok-write_reason_name.ensures) c.in_ok-write_bytes-2.ensures

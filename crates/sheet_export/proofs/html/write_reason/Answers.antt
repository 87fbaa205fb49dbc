use Rattle.std.proofs.Common.{◌++◌}
use Rattle.std.proofs.KnownBytes.{Appends-trans}
use Rattle.sheet_text.specs.Replies.{reason_name}
use Rattle.sheet_export.specs.Parts as part
use Rattle.sheet_export.proofs.html.write_reason.Goals as goal

pub returns : goal.returns
returns g c =
    let reason = c.args.reason in
    Appends-trans _ _ _ (part.lost_start ++ reason_name reason) part.lost_end
    (Appends-trans _ _ _ part.lost_start (reason_name reason) c.in_ok-write_bytes.ensures c.in_ok-write_reason_name.ensures) c.in_ok-write_bytes-2.ensures
